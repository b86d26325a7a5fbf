-- A call that is made again while signals interrupt it.
use Rattle.std.specs.Prelude.{ℕ, ◌+◌, ◌≡◌, List, None, Some, Result}
use Rattle.std.specs.Borrow.{MutBor}
use Rattle.std.specs.Fn.{Shared}
use Rattle.std.specs.declared.io.Error.{Error}
use Rattle.streams.specs.Calls.{Follows}

-- each call after `retries` interrupted ones in a row does what `Gives` says, and the first that is not made again ends it
pub data Repeats {A : Type 0} (Gives : A → Result ℕ Error → A → Type 0) : ℕ → A → Result ℕ Error → A → Type 0 where
  over : (retries : ℕ) (before after : A) (answer came : Result ℕ Error) → Gives before answer after → Follows retries answer (Some came)
      → Repeats Gives retries before came after
  again : (retries : ℕ) (before between after : A) (answer came : Result ℕ Error) → Gives before answer between → Follows retries answer None
      → Repeats Gives (retries + 1) between came after → Repeats Gives retries before came after

-- a call of f at a stream and a room may give this answer, and leave them so
pub record Gives {F S : Type 0} (g : Shared F (MutBor S × (MutBor (List ℕ) × Unit {0})) (Result ℕ Error × (MutBor S × (MutBor (List ℕ) × Unit {0})))) (f : F)
    (before : S × List ℕ) (answer : Result ℕ Error) (after : S × List ℕ) : Type 0 where
  pub stream : MutBor S
  pub room : MutBor (List ℕ)
  pub shows : (stream.now ≡ before.0) × (room.now ≡ before.1)
  pub left : MutBor S × (MutBor (List ℕ) × Unit {0})
  pub met : g.post f (stream, (room, tt)) (answer, left)
  pub leaves : (left.0.now ≡ after.0) × (left.1.0.now ≡ after.1)
