-- `dayfile::reader::read_column` meets its contract: at each turn the first places hold the column. Assumes nothing.
use Rattle.dayfile.specs.Format.{number_in_row}
use Rattle.dayfile.specs.Reader.{FilledFrom}
use Rattle.dayfile.proofs.reader.read_column.Given as goal

abbrev pub invariant-loop-row : goal.invariant-loop-row
invariant-loop-row l = FilledFrom l.row (number_in_row l.file l.from) l.initial.list l.list
