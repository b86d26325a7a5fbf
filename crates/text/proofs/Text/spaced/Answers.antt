-- `text::Text::spaced` meets its contract. Assumes nothing.
use Rattle.text.proofs.Append.{appended_join}
use Rattle.text.proofs.Text.spaced.Goals as goal

pub returns-clause-puts : goal.returns-clause-puts
returns-clause-puts c = appended_join c.byte.ensures c.decimal.ensures
