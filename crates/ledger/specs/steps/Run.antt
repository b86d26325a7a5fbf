-- The last job before a slot, by the row in each slot.
use Rattle.std.specs.Prelude.{ℕ, ◌<◌, Option, Some, None}
use Rattle.ledger.specs.Fills.{Empty, Busy}

-- the last job before slot t stands at slot `last`
pub record LastJob (row : ℕ → ℕ) (t last : ℕ) : Type 0 where
  pub earlier : last < t
  pub job : Busy row last
  pub empty : (u : ℕ) → last < u → u < t → Empty row u

-- the last job before slot t, or none
abbrev pub JobBefore : (ℕ → ℕ) → ℕ → Option ℕ → Type 0
JobBefore row t (Some last) = LastJob row t last
JobBefore row t None = (u : ℕ) → u < t → Empty row u
