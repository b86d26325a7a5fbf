-- What any planner promises, over plain inputs and outcome. The checks and the need are parameters, so that each planner has its own.
use Rattle.std.specs.Prelude.{ℕ, ◌≡◌, List, ◌⊎◌}
use Rattle.day.specs.declared.Day.{Day}
use Rattle.day.specs.Windows.{Windows}
use Rattle.day.specs.Plan.{Plan, NoPlan}
use Rattle.day.specs.Gap.{cost}
use Rattle.day.specs.Best.{Best}
use Rattle.day.specs.Changed.{FirstFilled}
use Rattle.checks.specs.declared.Answer.{Answer}
use Rattle.checks.specs.Answer.{says, done, no_plan}
use Rattle.checks.specs.Refusal.{◌then◌}
use Rattle.checks.specs.Zero.{zeroed}

-- the cost of the best plan, or that there is no proper plan
pub data Verdict (day : Day) (w : Windows) (a : Answer) : Type 0 where
  costs : (p : Plan) → Best day w p → a ≡ says done (cost day w.count p) 0 → Verdict day w a
  none_proper : NoPlan w → a ≡ says no_plan 0 0 → Verdict day w a

-- the first starts hold the best plan in row order, and the others are as they were
pub record BestIn (day : Day) (w : Windows) (starts starts_after : List ℕ) : Type 0 where
  pub plan : Plan
  pub best : Best day w plan
  pub filled : FirstFilled w.count (λ i t. t ≡ plan i) starts starts_after

-- starts and table go in, and come out as starts_after and table_after
pub record Planned (Check : Answer → Type 0) (need : ℕ) (day : Day) (w : Windows) (starts table : List ℕ) (a : Answer) (starts_after table_after : List ℕ) : Type 0 where
  pub answer : (Check then Verdict day w) a
  pub planned : a.code ≡ done → BestIn day w starts starts_after
  pub unplanned : (a.code ≡ done → ⊥) → starts_after ≡ starts
  pub cleared : (a.code ≡ done) ⊎ (a.code ≡ no_plan) → table_after ≡ zeroed need table
  pub kept : (a.code ≡ done → ⊥) → (a.code ≡ no_plan → ⊥) → table_after ≡ table
