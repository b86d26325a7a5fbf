-- Numbers as decimal digits, in bytes.
use Rattle.std.specs.Prelude.{ℕ, zero, suc, ◌+◌, ◌*◌, ◌-◌, ◌/◌, ◌%◌, ◌≤◌, ◌<◌, ◌≡◌, cond, List, [], ◌∷◌, ◌++◌, ltb, length, get_or}

-- the digits of a number, the highest first: those of its tenth where it has more than one, then its last; steps are enough if there are as many as
-- the number says
unfoldable pub digits : ℕ → ℕ → List ℕ
digits zero n = (48 + n) ∷ []
digits (suc steps) n = cond (ltb n 10) ((48 + n) ∷ []) (digits steps (n / 10) ++ ((48 + n % 10) ∷ []))

unfoldable pub decimal : ℕ → List ℕ
decimal n = digits n n

-- the number that digits stand for
unfoldable pub digits_value_after : ℕ → List ℕ → ℕ
digits_value_after high [] = high
digits_value_after high (d ∷ ds) = digits_value_after (10 * high + (d - 48)) ds

abbrev pub digits_value : List ℕ → ℕ
digits_value = digits_value_after 0

abbrev pub IsDigit : ℕ → Type 0
IsDigit d = (48 ≤ d) × (d < 58)

-- the decimal number without padding
pub record Decimal (n : ℕ) (ds : List ℕ) : Type 0 where
  pub some : 0 < length ds
  pub each : (i : ℕ) → i < length ds → IsDigit (get_or ds i 0)
  pub stands_for : digits_value ds ≡ n
  pub unpadded : 1 < length ds → 48 < get_or ds 0 0
