use Rattle.std.proofs.Common.{◌≡◌}
use Rattle.rows.specs.Rows.{put_first}
use Rattle.rows.proofs.put_back.Given as goal

-- The first rows are put, and the others stay.
abbrev pub invariant-loop-i : goal.invariant-loop-i
invariant-loop-i l = l.jobs ≡ put_first l.i l.fn.jobs l.rows
