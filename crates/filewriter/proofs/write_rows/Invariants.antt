-- `filewriter::write_rows` meets its contract: at each turn the rows so far are written. Assumes nothing.
use Prim.Native.Nat.{◌*◌}
use mathlib.Core.Path.{◌≡◌}
use lib.ListN.{take}
use Rattle.day.specs.Windows.{windows}
use Rattle.dayfile.specs.Format.{rows_bytes}
use Rattle.filewriter.proofs.write_rows.Given as goal

abbrev pub invariant-loop-row : goal.invariant-loop-row
invariant-loop-row l = take (4 * l.row) l.rows ≡ rows_bytes (windows l.releases l.deadlines) l.row
