-- `readback::latest_best` meets its contract: no place from `point` on has the sum. Assumes nothing.
use Prim.Native.Nat.{◌-◌, ◌<◌}
use Rattle.engine.specs.steps.OneMore.{more_in, one_job}
use Rattle.readback.proofs.Search.{NoLater}
use Rattle.readback.proofs.latest_best.Given as goal

abbrev pub invariant-loop-point : goal.invariant-loop-point
invariant-loop-point l =
    (l.next.release < l.point) × NoLater (one_job (more_in l.next) l.table) l.span.from l.span.to l.value (l.point - 1)
