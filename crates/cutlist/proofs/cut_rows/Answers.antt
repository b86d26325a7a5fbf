use native.Mathlib.Omega.{arith}
use Rattle.day.proofs.Changed.{filled_next}
use Rattle.cutlist.proofs.cut_rows.Goals as goal

pub loop-row-preserved : goal.loop-row-preserved
loop-row-preserved c = record {
  releases =
      filled_next c.loop-row.invariant.releases (omega arith)
      (rw (c.at_or_zero-start.ensures, c.at_or_zero.ensures) at c.cut_release.ensures);
  deadlines =
      filled_next c.loop-row.invariant.deadlines (omega arith)
      (rw (c.at_or_zero-start.ensures, c.at_or_zero-in-loop-row.ensures) at c.cut_deadline.ensures);
}
