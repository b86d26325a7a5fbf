-- `text::Text::rows` meets its contract. The loop's invariant: the lines of the first rows stand at the text's end. Assumes nothing.
use Prim.Native.Nat.{◌+◌, ◌*◌, ◌≤◌}
use Rattle.day.specs.Windows.{at}
use Rattle.text.specs.steps.Append.{Appended}
use Rattle.text.specs.Lines.{row_lines}
use Rattle.text.proofs.Text.rows.Given as goal

abbrev pub invariant-loop-row : goal.invariant-loop-row
invariant-loop-row l = (l.self.len ≤ l.initial.self.len + 9 * l.row) × Appended (row_lines (at l.starts) l.row) l.initial.self l.self
