-- `filewriter::write_rows` meets its contract: at each turn the rows so far are written. Assumes nothing.
use mathlib.Core.Path.{refl, ◌∙◌}
use native.Mathlib.Numerals.{add-one}
use native.Mathlib.Omega.{arith}
use Rattle.dayfile.specs.Format.{rows_bytes}
use Rattle.filewriter.proofs.Format.{row_numbers, written_more}
use Rattle.filewriter.proofs.write_rows.Goals as goal

pub loop-row-init : goal.loop-row-init
unfolding rows_bytes
loop-row-init c = refl

pub loop-row-preserved : goal.loop-row-preserved
unfolding rows_bytes
loop-row-preserved c =
    rw add-one
    (written_more _ _ _ _ _ c.loop-row.invariant
    ((rw c.at_or_zero.ensures at c.write_numbers.ensures) ∙ row_numbers _ _)
    (omega arith)
    (omega arith))
