-- `text::Text::row` meets its contract. Assumes nothing.
use Rattle.text.specs.Lines.{row_line}
use Rattle.text.proofs.Append.{appended_join}
use Rattle.text.proofs.Text.row.Goals as goal

pub returns-clause-puts : goal.returns-clause-puts
unfolding row_line
returns-clause-puts c = appended_join c.decimal.ensures c.numbers.ensures.puts
