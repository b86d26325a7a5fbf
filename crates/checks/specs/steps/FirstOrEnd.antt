-- What a search for the first row at fault gives.
use Rattle.std.specs.Prelude.{ℕ, ◌<◌, ◌≤◌}

-- i is the first of n rows at fault, or n where there is none
pub record FirstOrEnd (n : ℕ) (Fault : ℕ → Type 0) (i : ℕ) : Type 0 where
  pub within : i ≤ n
  pub fault : i < n → Fault i
  pub lowest : (j : ℕ) → j < i → Fault j → ⊥
