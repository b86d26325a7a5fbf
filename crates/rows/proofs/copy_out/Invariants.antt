use Rattle.std.proofs.Common.{◌≡◌, drop}
use Rattle.rows.specs.Rows.{no_rows, rows_from}
use Rattle.rows.proofs.copy_out.Given as goal

-- The first rows are copied.
abbrev pub invariant-loop-i : goal.invariant-loop-i
invariant-loop-i l = l.rows ≡ rows_from (no_rows l.end) l.i (drop l.from l.jobs)
