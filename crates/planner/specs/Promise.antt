-- What this planner promises: its checks and its need, put into what any planner promises.
use Rattle.std.specs.Prelude.{ℕ, ◌<◌, List, length}
use Rattle.checks.specs.declared.Answer.{Answer}
use Rattle.day.specs.declared.Day.{Day}
use Rattle.day.specs.Windows.{Windows}
use Rattle.checks.specs.Answer.{few_starts, short_table}
use Rattle.checks.specs.Refusal.{◌then◌, Refuses}
use Rattle.checks.specs.Check.{ListCheck}
use Rattle.checks.specs.Planned.{Planned}
use Rattle.planner.specs.Table.{need}

-- codes 1 to 6
abbrev pub PlanCheck : Day → Windows → List ℕ → List ℕ → Answer → Type 0
PlanCheck day w starts table =
    ListCheck day w
    then Refuses few_starts (length starts < w.count)
    then Refuses short_table (length table < need day.slots w.count)

-- what `plan` promises
abbrev pub PlanPromise : Day → Windows → List ℕ → List ℕ → Answer → List ℕ → List ℕ → Type 0
PlanPromise day w starts table = Planned (PlanCheck day w starts table) (need day.slots w.count) day w starts table
