-- At most one thing follows from what a call answered. Assumes nothing.
use Rattle.std.proofs.Common.{ℕ, ◌≡◌, refl, arith, Option, Result}
use Rattle.std.specs.declared.io.Error.{Error}
use Rattle.streams.specs.Calls.{Follows, moved, again, failure}

pub follows_unique : {retries : ℕ} {answer : Result ℕ Error} {a b : Option (Result ℕ Error)} → Follows retries answer a → Follows retries answer b
    → a ≡ b
follows_unique (moved n) (moved m) = refl
follows_unique (again e i h) (again f j g) = refl
follows_unique (again e i h) (failure f g) = absurd (omega (arith, g i))
follows_unique (failure e g) (again f i h) = absurd (omega (arith, g i))
follows_unique (failure e g) (failure f h) = refl
