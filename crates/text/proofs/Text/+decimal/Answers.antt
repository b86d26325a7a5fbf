-- `text::Text::decimal`: one digit, or those of the tenth and then the last.
use Rattle.text.proofs.Append.{appended_join}
use Rattle.text.proofs.Decimal.{decimal_large}
use Rattle.text.proofs.Text.+decimal.Goals as goal

pub returns : goal.returns
returns t c = rw (decimal_large _ c.if-number-lt10.false) (appended_join c.decimal.ensures c.byte-2.ensures)
