-- `text::Text::word` meets its contract. Assumes nothing.
use Rattle.text.proofs.Append.{appended_word}
use Rattle.text.proofs.Text.word.Goals as goal

pub returns : goal.returns
returns c = appended_word _ _ _ c.copy_from_slice.ensures.after
