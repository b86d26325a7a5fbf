-- Laws of the places of a day held: the first so many hold the numbers of the rows, the others 0. Assumes nothing.
use Prim.Native.Nat.{ℕ, ◌≤◌, ◌<◌}
use mathlib.Core.Path.{◌≡◌, ◌∙◌}
use mathlib.Core.List.{List}
use native.Mathlib.Omega.{arith}
use lib.ListN.{length, take, length-append, length-replicate, get_or-append}
use lib.Seq.{length-take-le, take_at, get_or-take}
use Rattle.day.specs.Windows.{at}
use Rattle.checks.specs.Check.{most_jobs}
use Rattle.fieldday.specs.Held.{with_zeros}

-- of a list that has n numbers
module _ (n : ℕ) (xs : List ℕ) (has : n ≤ length xs) where
  pub take_zeros : take n (with_zeros n xs) ≡ take n xs
  take_zeros = take_at (take n xs) _ n (length-take-le n xs has)

  pub at_zeros : (i : ℕ) → i < n → at (with_zeros n xs) i ≡ at xs i
  at_zeros i h = get_or-append (take n xs) _ 0 i (omega (arith, length-take-le n xs has)) ∙ get_or-take n xs i 0 h

  pub length_zeros : n ≤ most_jobs → length (with_zeros n xs) ≡ most_jobs
  length_zeros few = simp (length-append, length-replicate) (omega (arith, length-take-le n xs has))
