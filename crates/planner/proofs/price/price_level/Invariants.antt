-- `planner::price::price_level` meets its contract: the bands below `from` are filled. Assumes nothing.
use Rattle.day.specs.Far.{far_price}
use Rattle.engine.specs.Places.{layout_in}
use Rattle.engine.specs.steps.Bands.{BandsHold}
use Rattle.planner.proofs.price.price_level.Given as goal

abbrev pub invariant-loop-from : goal.invariant-loop-from
invariant-loop-from l = BandsHold (layout_in l.frame) 0 0 l.from (far_price l.day) l.initial.table l.table
