-- Plans: a start for each row. Of a claimed plan only the first `count` starts matter.
use Rattle.std.specs.Prelude.{ℕ, zero, suc, ◌+◌, ◌≤◌, ◌<◌, ◌≡◌, Bool, false, ◌||◌, eqb}
use Rattle.day.specs.Windows.{Windows}

abbrev pub Plan : Type 0
Plan = ℕ → ℕ

-- row i may start at t
abbrev pub MayStart : Windows → ℕ → ℕ → Type 0
MayStart w i t = (w.release i ≤ t) × (t + 1 ≤ w.deadline i)

-- each row a start in its window, no two the same
pub record Proper (w : Windows) (start : Plan) : Type 0 where
  pub inside : (i : ℕ) → i < w.count → MayStart w i (start i)
  pub apart : (i j : ℕ) → i < w.count → j < w.count → start i ≡ start j → i ≡ j

abbrev pub SomePlan : Windows → Type 0
SomePlan w = (start : Plan) × Proper w start

abbrev pub NoPlan : Windows → Type 0
NoPlan w = (start : Plan) → Proper w start → ⊥

-- whether one of the first n rows starts at slot t
unfoldable pub taken : ℕ → Plan → ℕ → Bool
taken zero start t = false
taken (suc n) start t = eqb (start n) t || taken n start t
