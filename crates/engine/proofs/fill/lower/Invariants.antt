-- `engine::fill::lower` meets its contract: the sums of lo up to e are lowered. Assumes nothing.
use Rattle.day.specs.Changed.{itself}
use Rattle.engine.specs.steps.Bands.{HoldsAlong, lowered}
use Rattle.engine.proofs.fill.lower.Given as goal

abbrev pub invariant-loop-e : goal.invariant-loop-e
invariant-loop-e l = HoldsAlong itself l.lo l.e (lowered l.initial.sums l.table l.band l.base) l.initial.sums l.sums
