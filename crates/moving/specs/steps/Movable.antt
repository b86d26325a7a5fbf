-- What is asked of numbers that are moved.
use Rattle.std.specs.Prelude.{ℕ, ◌<◌, List, ℤ}
use Rattle.day.specs.Windows.{at}
use Rattle.day.specs.Moved.{Shifts}

-- each of the first n numbers, moved, is a 16-bit number
abbrev pub Movable : ℤ → ℕ → List ℕ → Type 0
Movable by n xs = (i : ℕ) → i < n → (y : ℕ) × (y < 65536) × Shifts by (at xs i) y
