-- Sleep tests: which gaps the machine sleeps through, how often, and what it pays then.
use Rattle.std.specs.Prelude.{ℕ, suc, Bool, cond, List, [], ◌∷◌}
use Rattle.day.specs.declared.Power.{Power}

-- whether the machine sleeps through a gap of so many slots; the ledger's own test is `asleep` in day
abbrev pub SleepTest : Type 0
SleepTest = ℕ → Bool

-- of a list of gaps, the number of those that it sleeps through
unfoldable pub sleeps : SleepTest → List ℕ → ℕ
sleeps test [] = 0
sleeps test (g ∷ gs) = cond (test g) (suc (sleeps test gs)) (sleeps test gs)

-- what the machine pays for a gap of g slots if it does as the test says: a wake asleep, one a slot awake
abbrev pub paid : Power → SleepTest → ℕ → ℕ
paid power test g = cond (test g) power.wake g
