-- `engine::bands::copy` meets its contract: the places of lo up to e are copied. Assumes nothing.
use Rattle.engine.specs.steps.Bands.{HoldsAlong, offset, along}
use Rattle.engine.proofs.bands.copy.Given as goal

abbrev pub invariant-loop-e : goal.invariant-loop-e
invariant-loop-e l = HoldsAlong (offset l.to) l.lo l.e (along l.initial.table l.from) l.initial.table l.table
