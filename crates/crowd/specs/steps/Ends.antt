-- The jobs of a span by their deadlines.
use Rattle.std.specs.Prelude.{ℕ, ◌+◌, ◌≤◌, ◌≡◌, List, length}
use Rattle.day.specs.Windows.{Windows, at}
use Rattle.day.specs.Count.{Count}
use Rattle.checks.specs.Check.{most_slots}

-- row i is released at begin or later, and its deadline is end
abbrev pub EndsAt : Windows → ℕ → ℕ → ℕ → Type 0
EndsAt w begin end i = (begin ≤ w.release i) × (w.deadline i ≡ end)

-- of the first n rows that are released at begin or later, how many end at each slot
pub record Ends (w : Windows) (begin n : ℕ) (ends : List ℕ) : Type 0 where
  pub long : length ends ≡ most_slots + 1
  pub each : (end : ℕ) → end ≤ most_slots → Count (EndsAt w begin end) n (at ends end)
