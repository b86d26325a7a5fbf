-- `text::Text::rows` meets its contract. The loop's invariant: the lines of the first rows stand at the text's end. Assumes nothing.
use native.Mathlib.Omega.{arith}
use Rattle.text.specs.Lines.{row_lines}
use Rattle.text.proofs.Append.{appended_none, appended_join}
use Rattle.text.proofs.Lines.{row_lines_next}
use Rattle.text.proofs.Text.rows.Goals as goal

pub loop-row-init : goal.loop-row-init
unfolding row_lines
loop-row-init c = (omega arith, appended_none _)

pub loop-row-preserved : goal.loop-row-preserved
loop-row-preserved c = (
  omega arith,
  rw row_lines_next (appended_join c.loop-row.invariant.1 (rw c.at_or_zero.ensures at c.row.ensures.puts)),
)
