-- What the rows of a list hold by number, and starts by number laid out by row. Points stand for slots there, counted from 1.
use Rattle.std.specs.Prelude.{ℕ, ◌+◌, ◌-◌, ◌≡◌, List, replicate}
use Rattle.day.specs.Windows.{at}
use Rattle.day.specs.Changed.{Changed, Below, FirstFilled}
use Rattle.checks.specs.Check.{most_jobs}

-- what the rows hold, by number, as points
abbrev pub by_number : List ℕ → List ℕ → ℕ → ℕ
by_number rows order k = at rows (at order k) + 1

-- a list of most_jobs numbers, the first n of them so
abbrev pub InOrder : List ℕ → List ℕ → ℕ → List ℕ → Type 0
InOrder rows order n = FirstFilled n (λ k y. y ≡ by_number rows order k) (replicate most_jobs 0)

-- each row has the start of its number, a slot in place of a point; starts of no row are as they were
abbrev pub Laid : List ℕ → ℕ → (ℕ → ℕ) → List ℕ → List ℕ → Type 0
Laid order n b = Changed (Below n) (at order) (λ k y. y ≡ b k - 1)
