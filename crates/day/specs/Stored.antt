-- Numbers stored one after another in a list.
use Rattle.std.specs.Prelude.{ℕ, ◌+◌, ◌≡◌, List, ◌++◌, length, take, drop}

-- numbers stand from a place on, and what is before and beyond them stays
pub record Stored (place : ℕ) (numbers old new : List ℕ) : Type 0 where
  pub between : new ≡ take place old ++ numbers ++ drop (place + length numbers) old
