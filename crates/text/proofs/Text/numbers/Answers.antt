-- `text::Text::numbers` meets its contract. The loop's invariant: the first numbers stand at the text's end. Assumes nothing.
use native.Mathlib.Omega.{arith}
use Rattle.text.proofs.Append.{appended_join}
use Rattle.text.proofs.Lines.{spaced_next}
use Rattle.text.proofs.Text.numbers.Goals as goal

pub loop-number-preserved : goal.loop-number-preserved
loop-number-preserved c = (
  omega arith,
  rw (spaced_next _ _ c.loop-number-test.true) (appended_join c.loop-number.invariant.1 c.spaced.ensures.puts),
)
