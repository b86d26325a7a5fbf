-- `engine::mark::mark_releases` meets its contract: the jobs from `job` on have lowered the marks. Assumes nothing.
use Prim.Native.Nat.{◌+◌, ◌-◌}
use mathlib.Core.Path.{◌≡◌}
use native.Mathlib.Omega.{arith}
use Rattle.engine.proofs.Marks.{marked_more}
use Rattle.engine.proofs.mark.mark_releases.Goals as goal

pub loop-job-preserved : goal.loop-job-preserved
loop-job-preserved c =
    let l = c.loop-job in
    let next : l.job - 1 + 1 ≡ l.job = omega arith in
    marked_more c.args.rel.now c.args.count c.args.marks.now (l.job - 1) (omega arith) l.marks _ (rw next l.invariant)
    (rw c.from.ensures at c.lower_mark.ensures)
