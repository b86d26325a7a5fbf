-- Demand 2: what the checks take, and nothing else, is answered by the one best plan and its cost, or by 7, and by 7 exactly if there is no
-- proper plan.
use Rattle.std.specs.Prelude.{ℕ, ◌<◌, ◌≡◌, ◌⊎◌}
use Rattle.day.specs.Windows.{at}
use Rattle.day.specs.Changed.{OnlyFirst}
use Rattle.day.specs.Plan.{Plan, NoPlan}
use Rattle.day.specs.Gap.{cost}
use Rattle.day.specs.Best.{Best}
use Rattle.checks.specs.Answer.{says, done, no_plan}
use Rattle.demands.specs.Run.{Run, list, Promised, Admitted, Served}

-- code 0 and the cost of the plan that the first starts now hold, which is the best and the only one; the places after it are as they were
pub record BestGiven (run : Run) : Type 0 where
  pub answer : run.answer ≡ says done (cost run.day (list run).count (at run.starts_after)) 0
  pub best : Best run.day (list run) (at run.starts_after)
  pub only : (p : Plan) → Best run.day (list run) p → (i : ℕ) → i < (list run).count → at run.starts_after i ≡ p i
  pub others : OnlyFirst (list run).count run.starts run.starts_after

-- code 7, there is no proper plan, and the starts are as they were
pub record NoneGiven (run : Run) : Type 0 where
  pub answer : run.answer ≡ says no_plan 0 0
  pub none : NoPlan (list run)
  pub starts : run.starts_after ≡ run.starts

abbrev pub BestOrNone : Run → Type 0
BestOrNone run = BestGiven run ⊎ NoneGiven run

-- 0 and 7 come only where checks 1 to 6 have nothing to refuse
abbrev pub AnswersAdmitted : Type 0
AnswersAdmitted = (run : Run) → Promised run → (run.answer.code ≡ done) ⊎ (run.answer.code ≡ no_plan) → Admitted run

-- 7 exactly if there is no proper plan
pub record SevenExactly (run : Run) : Type 0 where
  pub only_if : run.answer.code ≡ no_plan → NoPlan (list run)
  pub whenever : NoPlan (list run) → run.answer.code ≡ no_plan

abbrev pub GivesBestOrNone : Type 0
GivesBestOrNone = (run : Run) → Served run → BestOrNone run

abbrev pub SevenIfNone : Type 0
SevenIfNone = (run : Run) → Served run → SevenExactly run
