-- What reading gives of a file that was written: the list, T and L that were written.
use Rattle.std.specs.Prelude.{ℕ, ◌≡◌, List, length}
use Rattle.day.specs.declared.Day.{Day}
use Rattle.day.specs.Windows.{at}
use Rattle.checks.specs.Answer.{says, done}
use Rattle.dayfile.specs.declared.reader.Reading.{Reading}
use Rattle.dayfile.specs.Reader.{FilledFrom}

-- releases and deadlines were written; xs and ys were lent to the reader, and are xs-after and ys-after afterwards
pub record Recovered (day : Day) (releases deadlines xs ys : List ℕ) (r : Reading) (xs-after ys-after : List ℕ) : Type 0 where
  pub answer : r.answer ≡ says done 0 0
  pub count : r.count ≡ length releases
  pub same_day : r.day ≡ day
  pub same_releases : FilledFrom (length releases) (at releases) xs xs-after
  pub same_deadlines : FilledFrom (length releases) (at deadlines) ys ys-after
