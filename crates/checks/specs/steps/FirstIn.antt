-- What a search for the first row at fault gives.
use Rattle.std.specs.Prelude.{ℕ, ◌<◌, Option, Some, None}
use Rattle.checks.specs.Refusal.{First}

-- the first of n rows at fault, or none where no row is
abbrev pub FirstIn : (n : ℕ) (Fault : ℕ → Type 0) → Option ℕ → Type 0
FirstIn n Fault (Some i) = First n Fault i
FirstIn n Fault None = (j : ℕ) → j < n → Fault j → ⊥
