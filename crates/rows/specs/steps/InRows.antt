-- Rows by value as the two columns that functions over columns take.
use Rattle.std.specs.Prelude.{ℕ, ◌≤◌, List, length, take}
use Rattle.day.specs.Windows.{Windows, windows}
use Rattle.rows.specs.declared.Rows.{Rows}

-- the rows' columns
abbrev pub releases_in : Rows → List ℕ
releases_in rows = take rows.count rows.releases

abbrev pub deadlines_in : Rows → List ℕ
deadlines_in rows = take rows.count rows.deadlines

abbrev pub windows_in : Rows → Windows
windows_in rows = windows (releases_in rows) (deadlines_in rows)

-- each row has its place in both columns
pub record RowsFit (rows : Rows) : Type 0 where
  pub releases : rows.count ≤ length rows.releases
  pub deadlines : rows.count ≤ length rows.deadlines
