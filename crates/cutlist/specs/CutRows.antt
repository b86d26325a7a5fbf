-- The windows of a cut list as two columns.
use Rattle.std.specs.Prelude.{ℕ, ◌≡◌, List, replicate}
use Rattle.day.specs.Windows.{at}
use Rattle.day.specs.Changed.{FirstFilled}
use Rattle.checks.specs.Check.{most_jobs}
use Rattle.cutlist.specs.declared.CutRows.{CutRows}
use Rattle.cutlist.specs.Cut.{cut_release, cut_deadline}

-- the places of a column before any row is cut
abbrev pub empty_column : List ℕ
empty_column = replicate most_jobs 0

-- the first n places of both columns hold the cut windows
pub record HoldsCut (slot n : ℕ) (rel dead starts : List ℕ) (c : CutRows) : Type 0 where
  pub releases : FirstFilled n (λ i t. t ≡ cut_release slot (at starts i) (at rel i)) empty_column c.releases
  pub deadlines : FirstFilled n (λ i t. t ≡ cut_deadline slot (at starts i) (at dead i)) empty_column c.deadlines
