-- Planning rows and counting the slots of the plan found.
use Rattle.std.specs.Prelude.{ℕ, List}
use Rattle.day.specs.declared.Day.{Day}
use Rattle.day.specs.Windows.{Windows}
use Rattle.planner.specs.Promise.{PlanCheck}
use Rattle.report.specs.Outcome.{Outcome}
use Rattle.report.specs.File.{ListReported}

abbrev pub RowsReported : Day → Windows → List ℕ → List ℕ → Outcome → List ℕ → List ℕ → Type 0
RowsReported day w starts table = ListReported (PlanCheck day w starts table) day w starts table
