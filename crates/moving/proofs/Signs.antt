-- What a test of two integers says. Assumes nothing.
use mathlib.Core.Path.{◌≡◌}
use mathlib.Core.Bool.{true, false}
use native.Mathlib.Omega.{arith}
use lib.IntN.{ℤ}
use lib.Signed.{lt_z, ◌<ℤ◌}
use Rattle.std.proofs.lemmas.Int.{ints}

pub below : (a b : ℤ) → lt_z a b ≡ true → a <ℤ b
below a b e = grind (arith, ints)

pub not_below : (a b : ℤ) → lt_z a b ≡ false → a <ℤ b → ⊥
not_below a b e p = grind (arith, ints)
