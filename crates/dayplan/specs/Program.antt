-- What the program prints of what it reads.
use Rattle.std.specs.Prelude.{ℕ, List, replicate}
use Rattle.text.specs.declared.Text.{Text}
use Rattle.report.specs.File.{ReportPromise}

-- the text for a file that is planned in a work table of 30,625 places
pub record Printed (file : List ℕ) (text : Text) : Type 0 where
  pub table_after : List ℕ
  pub planned : ReportPromise file (replicate 30625 0) text table_after
