-- Marks: for each point how many of the lowest jobs may split there. A point marked 0 at first is not allowed.
use Rattle.std.specs.Prelude.{ℕ, ◌≤◌, ◌<◌, ◌≡◌, List, length}
use Rattle.day.specs.Windows.{at}

-- of the lowest n jobs, job k counts at t exactly if t was marked and no job from `from` on and below k is released there
pub record MarkedBy (rel : List ℕ) (from n : ℕ) (old new : List ℕ) : Type 0 where
  pub long : length new ≡ length old
  pub counts : (k t : ℕ) → k < n → t < length old → k < at new t
      → (0 < at old t) × ((i : ℕ) → from ≤ i → i < k → at rel i ≡ t → ⊥)
  pub counted : (k t : ℕ) → k < n → t < length old → 0 < at old t → ((i : ℕ) → from ≤ i → i < k → at rel i ≡ t → ⊥)
      → k < at new t
