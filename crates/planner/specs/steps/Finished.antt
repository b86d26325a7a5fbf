-- What is found of jobs in number order: the table is filled, the plan is read back from it, and by the value of the whole day it is told.
use Rattle.std.specs.Prelude.{ℕ, ◌≤◌, ◌<◌, ◌≡◌, List, length, Option, Some, None}
use Rattle.checks.specs.declared.Answer.{Answer}
use Rattle.day.specs.declared.Day.{Day}
use Rattle.day.specs.Windows.{at}
use Rattle.day.specs.Changed.{OnlyFirst}
use Rattle.checks.specs.Answer.{says, done, no_plan}
use Rattle.checks.specs.Check.{most_jobs}
use Rattle.rule.specs.Span.{Problem, value, read_back}
use Rattle.rule.specs.Whole.{without_ends}
use Rattle.engine.specs.Lent.{Lent, layout_of}
use Rattle.engine.specs.Filled.{ValuesHeld, Small}
use Rattle.numbered.specs.InOrder.{Laid}
use Rattle.planner.specs.declared.Found.{Found}
use Rattle.planner.specs.Table.{need}
use Rattle.planner.specs.steps.Jobs.{PosedAtPrices}

-- the table holds the values of a problem for at most n jobs
abbrev pub Levels : Problem → Lent → ℕ → List ℕ → Type 0
Levels P G n table = (i : ℕ) → i ≤ n → ValuesHeld P (layout_of G) i table

-- the table holds the values of every problem that the lists pose; what n jobs don't need is as it was
pub record Tabled (day : Day) (G : Lent) (n : ℕ) (old new : List ℕ) : Type 0 where
  pub changed : OnlyFirst (need day.slots n) old new
  pub small : (i : ℕ) → i ≤ n → Small (layout_of G) G.shape.none i new
  pub values : (P : Problem) → PosedAtPrices day G n P → Levels P G n new

-- the value of n jobs up to the point `end`, and if there is a plan its starts by number
pub record Finds (P : Problem) (n end : ℕ) (found : Found) : Type 0 where
  pub value_is : found.value ≡ value P n 0 end
  pub long : length found.starts ≡ most_jobs
  pub each : value P n 0 end < P.none → (k : ℕ) → k < n → at found.starts k ≡ read_back P n 0 end k

-- that, or that there is no plan
abbrev pub FindsPlan : Problem → ℕ → ℕ → Option Found → Type 0
FindsPlan P n end (Some found) = Finds P n end found × (found.value < P.none)
FindsPlan P n end None = P.none ≤ value P n 0 end

-- the answer by what is found, and the starts
abbrev pub Told : Day → List ℕ → Option Found → List ℕ → Answer → List ℕ → Type 0
Told day order (Some found) starts a starts_after =
    (a ≡ says done (without_ends day (length order) found.value) 0) × Laid order (length order) (at found.starts) starts starts_after
Told day order None starts a starts_after = (a ≡ says no_plan 0 0) × (starts_after ≡ starts)
