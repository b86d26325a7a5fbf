-- Which job of a span is the highest.
use Rattle.std.specs.Prelude.{ℕ, ◌≤◌, ◌<◌, ◌≡◌, Bool, true, false, Option, Some, None}

-- b says whether r lies from s on and before e
pub record Tells (b : Bool) (s e r : ℕ) : Type 0 where
  pub yes : b ≡ true → (s ≤ r) × (r < e)
  pub no : b ≡ false → (s ≤ r) × (r < e) → ⊥

-- job k is the highest of the lowest n that are released from s on and before e
pub record Highest (release : ℕ → ℕ) (s e n k : ℕ) : Type 0 where
  pub below : k < n
  pub inside : (s ≤ release k) × (release k < e)
  pub higher : (i : ℕ) → k < i → i < n → (s ≤ release i) × (release i < e) → ⊥

-- that job, or there is none
abbrev pub HighestInside : (ℕ → ℕ) → ℕ → ℕ → ℕ → Option ℕ → Type 0
HighestInside release s e n (Some k) = Highest release s e n k
HighestInside release s e n None = (i : ℕ) → i < n → (s ≤ release i) × (release i < e) → ⊥
