-- Windows: for each row the slot of its release and its deadline. A row is counted from 0 here, and from 1 where an answer shows it.
use Rattle.std.specs.Prelude.{ℕ, ◌<◌, ◌≡◌, List, length, get_or}

pub record Windows : Type 0 where
  pub count : ℕ
  pub release : ℕ → ℕ
  pub deadline : ℕ → ℕ

-- the same windows, row for row
pub record SameRows (w v : Windows) : Type 0 where
  pub count : v.count ≡ w.count
  pub release : (i : ℕ) → i < w.count → w.release i ≡ v.release i
  pub deadline : (i : ℕ) → i < w.count → w.deadline i ≡ v.deadline i

-- the number at a place of a list; 0 past its end
abbrev pub at : List ℕ → ℕ → ℕ
at xs i = get_or xs i 0

-- of separate lists of numbers: a row for each release; a missing deadline is 0, a surplus one is no row
abbrev pub windows : List ℕ → List ℕ → Windows
windows releases deadlines =
    record { count = length releases; release = at releases; deadline = at deadlines }
