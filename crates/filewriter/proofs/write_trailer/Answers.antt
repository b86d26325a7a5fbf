-- `filewriter::write_trailer` meets its contract. Assumes nothing.
use mathlib.Core.Path.{◌∙◌}
use Rattle.filewriter.proofs.Format.{trailer_numbers}
use Rattle.filewriter.proofs.write_trailer.Goals as goal

pub returns : goal.returns
returns c = c.write_numbers.ensures ∙ trailer_numbers _ _
