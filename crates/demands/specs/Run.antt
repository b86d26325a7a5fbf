-- A run of the planner: what goes in, and what comes out.
use Rattle.std.specs.Prelude.{ℕ, ◌≤◌, List, length}
use Rattle.checks.specs.declared.Answer.{Answer}
use Rattle.day.specs.declared.Day.{Day}
use Rattle.day.specs.Windows.{Windows, windows}
use Rattle.checks.specs.Check.{Accepted}
use Rattle.planner.specs.Table.{need}
use Rattle.planner.specs.Promise.{PlanPromise}

pub record Run : Type 0 where
  pub day : Day
  pub releases : List ℕ
  pub deadlines : List ℕ
  -- the lent lists, as they come in
  pub starts : List ℕ
  pub table : List ℕ
  -- what comes back, and the lent lists afterwards
  pub answer : Answer
  pub starts_after : List ℕ
  pub table_after : List ℕ

abbrev pub list : Run → Windows
list run = windows run.releases run.deadlines

-- the run keeps the planner's promise
abbrev pub Promised : Run → Type 0
Promised run =
    PlanPromise run.day (list run) run.starts run.table run.answer run.starts_after run.table_after

-- checks 1 to 6 have nothing to refuse
pub record Admitted (run : Run) : Type 0 where
  pub accepted : Accepted run.day (list run)
  pub room : (list run).count ≤ length run.starts
  pub table : need run.day.slots (list run).count ≤ length run.table

-- what the checks take, planned as promised
pub record Served (run : Run) : Type 0 where
  pub promised : Promised run
  pub admitted : Admitted run
