-- The least value and the latest place over the places below a bound that pass a test.
use Rattle.std.specs.Prelude.{ℕ, zero, suc, min, Bool, cond}

-- the least of `none` and of f t over the t below m that pass
unfoldable pub least : (ℕ → Bool) → (ℕ → ℕ) → ℕ → ℕ → ℕ
least pass f none zero = none
least pass f none (suc m) = cond (pass m) (min (f m) (least pass f none m)) (least pass f none m)

-- the latest t below m that passes; 0 where there is none
unfoldable pub latest : (ℕ → Bool) → ℕ → ℕ
latest pass zero = zero
latest pass (suc m) = cond (pass m) m (latest pass m)
