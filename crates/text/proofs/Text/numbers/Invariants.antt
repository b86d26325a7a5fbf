-- `text::Text::numbers` meets its contract. The loop's invariant: the first numbers stand at the text's end. Assumes nothing.
use Prim.Native.Nat.{◌+◌, ◌*◌, ◌≤◌}
use lib.ListN.{take}
use Rattle.text.specs.steps.Append.{Appended}
use Rattle.text.specs.Lines.{spaced}
use Rattle.text.proofs.Text.numbers.Given as goal

abbrev pub invariant-loop-number : goal.invariant-loop-number
invariant-loop-number l = (l.self.len ≤ l.initial.self.len + 6 * l.number-index) × Appended (spaced (take l.number-index l.numbers)) l.initial.self l.self
