-- `engine::bands::unload` meets its contract: the places of lo up to e are moved. Assumes nothing.
use Rattle.day.specs.Windows.{at}
use Rattle.day.specs.Changed.{itself}
use Rattle.engine.specs.steps.Bands.{HoldsAlong, offset, always}
use Rattle.engine.proofs.bands.unload.Given as goal

abbrev pub invariant-loop-e : goal.invariant-loop-e
invariant-loop-e l = HoldsAlong (offset l.to) l.lo l.e (at l.initial.finished) l.initial.table l.table × HoldsAlong itself l.lo l.e
    (always l.behind) l.initial.finished l.finished
