-- Windows moved earlier or later.
use Rattle.std.specs.Prelude.{ℕ, ◌<◌, ◌≡◌, ℤ, pos, ◌+ℤ◌}
use Rattle.day.specs.Windows.{Windows}

-- y is x moved by a signed number of slots; positive is later
abbrev pub Shifts : ℤ → ℕ → ℕ → Type 0
Shifts by x y = pos x +ℤ by ≡ pos y

-- v is w with every window moved
pub record Moved (by : ℤ) (w v : Windows) : Type 0 where
  pub count : v.count ≡ w.count
  pub release : (i : ℕ) → i < w.count → Shifts by (w.release i) (v.release i)
  pub deadline : (i : ℕ) → i < w.count → Shifts by (w.deadline i) (v.deadline i)
