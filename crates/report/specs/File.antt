-- What planning a day file promises, and the program's text for its input: the reader's, the planner's and the ledger's answers put together.
use Rattle.std.specs.Prelude.{ℕ, ◌<◌, ◌≡◌, List, length, replicate, Result, Ok, Err}
use Rattle.checks.specs.declared.Answer.{Answer}
use Rattle.checks.specs.declared.outcome.Refusal.{Refusal}
use Rattle.day.specs.declared.Day.{Day}
use Rattle.day.specs.Windows.{Windows, at}
use Rattle.checks.specs.Answer.{says, done, long_input, refused}
use Rattle.checks.specs.Refusal.{◌then◌, Refuses}
use Rattle.checks.specs.Check.{most_jobs, ListCheck}
use Rattle.checks.specs.Planned.{Planned}
use Rattle.dayfile.specs.Format.{file_day, file_windows}
use Rattle.dayfile.specs.Reader.{FileCheck}
use Rattle.planner.specs.Table.{need}
use Rattle.planner.specs.Promise.{PlanCheck}
use Rattle.ledger.specs.Promise.{no_counts, Ledgered}
use Rattle.text.specs.declared.Text.{Text}
use Rattle.text.specs.Lines.{lines, Prints}
use Rattle.report.specs.declared.FilePlan.{FilePlan}
use Rattle.report.specs.Outcome.{Outcome}

-- under a refusal the number of jobs and the ledger are 0
abbrev pub no_outcome : Answer → Outcome
no_outcome answer = record { answer = answer; count = 0; counts = no_counts }

-- what planning a file gives as an outcome
abbrev pub outcome : Result FilePlan Refusal → Outcome
outcome (Ok plan) = record { answer = says done plan.cost 0; count = plan.count; counts = plan.counts }
outcome (Err refusal) = no_outcome (refused refusal)

-- a plan with its ledger, for any checks of the planner and of the list, and any need: starts and table go in, and come out as starts_after and
-- table_after
pub record Reported (Check CheckOfList : Answer → Type 0) (need : ℕ) (day : Day) (w : Windows) (starts table : List ℕ) (o : Outcome) (starts_after table_after : List ℕ) : Type 0 where
  pub plan : Planned Check need day w starts table o.answer starts_after table_after
  pub count : o.answer.code ≡ done → o.count ≡ w.count
  pub counts : o.answer.code ≡ done → Ledgered CheckOfList day w starts_after (record { answer = says done 0 0; counts = o.counts })
  pub refused : (o.answer.code ≡ done → ⊥) → o ≡ no_outcome o.answer

-- with document 01's check of the list and its need
abbrev pub ListReported : (Answer → Type 0) → Day → Windows → List ℕ → List ℕ → Outcome → List ℕ → List ℕ → Type 0
ListReported Check day w = Reported Check (ListCheck day w) (need day.slots w.count) day w

-- the codes of a reader with room for 40 rows, then the planner's
abbrev pub FilePlanCheck : List ℕ → List ℕ → List ℕ → Answer → Type 0
FilePlanCheck file starts table = FileCheck file most_jobs then PlanCheck (file_day file) (file_windows file) starts table

abbrev pub FilePromise : List ℕ → List ℕ → List ℕ → Outcome → List ℕ → List ℕ → Type 0
FilePromise file starts table = ListReported (FilePlanCheck file starts table) (file_day file) (file_windows file) starts table

-- the program's input has at most this many bytes
abbrev pub most_bytes : ℕ
most_bytes = 4096

abbrev pub InputCheck : List ℕ → Answer → Type 0
InputCheck file = Refuses long_input (most_bytes < length file)

-- code 17 before all others
abbrev pub InputPlanCheck : List ℕ → List ℕ → List ℕ → Answer → Type 0
InputPlanCheck file starts table = InputCheck file then FilePlanCheck file starts table

abbrev pub InputReported : List ℕ → List ℕ → List ℕ → Outcome → List ℕ → List ℕ → Type 0
InputReported file starts table = ListReported (InputPlanCheck file starts table) (file_day file) (file_windows file) starts table

-- the text for an input: what planning it into 40 places that hold 0 gives, in lines
pub record ReportPromise (file table : List ℕ) (text : Text) (table_after : List ℕ) : Type 0 where
  pub outcome : Outcome
  pub starts : List ℕ
  pub reported : InputReported file (replicate most_jobs 0) table outcome starts table_after
  pub prints : Prints (lines outcome.answer outcome.count (at starts) outcome.counts) text
