-- `planner::price::price_band` meets its contract: the places up to e are filled. Assumes nothing.
use Rattle.day.specs.Far.{far_price}
use Rattle.engine.specs.steps.Bands.{HoldsAlong, offset}
use Rattle.planner.proofs.price.price_band.Given as goal

abbrev pub invariant-loop-e : goal.invariant-loop-e
invariant-loop-e l = HoldsAlong (offset l.here) l.from l.e (far_price l.day l.from) l.initial.table l.table
