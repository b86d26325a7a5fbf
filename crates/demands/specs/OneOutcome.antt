-- Two outcomes that satisfy a promise are equal. A field for each function that another crate or C can call, save where the promise is an
-- equation for all that comes out. An outcome is what comes back and what the lent lists hold afterwards. Where a function gives a value or a
-- refusal, its promise speaks of the record that says it; OneResult says that the record says one such outcome.
use Rattle.std.specs.Prelude.{ℕ, ◌≡◌, List, ℤ, Result}
use Rattle.checks.specs.declared.outcome.Refusal.{Refusal}
use Rattle.checks.specs.Answer.{answered_by, answered, checked}
use Rattle.std.specs.Borrow.{Bor}
use Rattle.checks.specs.declared.Answer.{Answer}
use Rattle.day.specs.declared.Power.{Power}
use Rattle.day.specs.declared.Day.{Day}
use Rattle.day.specs.declared.Job.{Job}
use Rattle.day.specs.Windows.{Windows}
use Rattle.checks.specs.Refusal.{◌then◌, Passed}
use Rattle.checks.specs.Check.{SlotsCheck, PowerCheck, JobsCheck, TimesCheck, ListCheck}
use Rattle.day.specs.Numbering.{Numbering}
use Rattle.planner.specs.Promise.{PlanPromise}
use Rattle.claim.specs.Claim.{PricePromise}
use Rattle.claim.specs.Rows.{NextJob, FoundJob, Judged, claimed}
use Rattle.choice.specs.Choice.{plan_number, ChoicePromise, PartPromise, SamePart}
use Rattle.ledger.specs.Promise.{ledger_answer, slot_answer, LedgerPromise, SlotPromise}
use Rattle.cutlist.specs.CutRows.{HoldsCut}
use Rattle.crowd.specs.Promise.{answered_span, CrowdPromise}
use Rattle.fieldday.specs.declared.FieldDay.{FieldDay}
use Rattle.fieldday.specs.declared.FieldAnswer.{FieldAnswer}
use Rattle.fieldday.specs.Promise.{OpenPromise, AdvancePromise, AddPromise, OfferPromise}
use Rattle.moving.specs.Moving.{MovePromise}
use Rattle.dayfile.specs.declared.reader.Reading.{Reading}
use Rattle.dayfile.specs.Reader.{as_reading, ReadPromise}
use Rattle.filewriter.specs.Writer.{WritePromise}
use Rattle.rows.specs.Columns.{releases, deadlines}
use Rattle.chaskuri.specs.Slot.{SlotNumbered}
use Rattle.report.specs.Outcome.{Outcome}
use Rattle.report.specs.File.{outcome}
use Rattle.text.specs.declared.Text.{Text}
use Rattle.text.specs.Lines.{Prints}
use Rattle.report.specs.File.{FilePromise, ReportPromise}

abbrev pub AtMostOne : {A : Type 0} → (A → Type 0) → Type 0
AtMostOne {A} Promise = (x y : A) → Promise x → Promise y → x ≡ y

pub record OneOutcome : Type 0 where
  -- checks
  pub check_slots : (limit slots : ℕ) → AtMostOne (SlotsCheck limit slots then Passed)
  pub check_power : (power : Power) → AtMostOne (PowerCheck power then Passed)
  pub check_jobs : (limit slots : ℕ) (w : Windows) → AtMostOne (JobsCheck limit slots w then Passed)
  pub check_times : (slots : ℕ) (w : Windows) → AtMostOne (TimesCheck slots w then Passed)
  pub check_list : (day : Day) (w : Windows) → AtMostOne (ListCheck day w then Passed)
  -- day
  pub number_rows : (deadlines order : List ℕ) → AtMostOne (Numbering deadlines order)
  -- planner
  pub plan : (day : Day) (w : Windows) (starts table : List ℕ)
      → AtMostOne {A = Answer × List ℕ × List ℕ} (λ o. PlanPromise day w starts table o.0 o.1 o.2)
  -- crowd
  pub crowded_span : (slots : ℕ) (w : Windows) → AtMostOne (CrowdPromise slots w)
  -- claim
  pub judge : (day : Day) (w : Windows) (starts : List ℕ) → AtMostOne (Judged (ListCheck day w) w starts)
  pub price : (day : Day) (w : Windows) (starts : List ℕ) → AtMostOne (PricePromise day w starts)
  pub which : (day : Day) (w : Windows) (own server : List ℕ) → AtMostOne (ChoicePromise day w own server)
  pub choose : (day : Day) (w : Windows) (own server part other : Bor (List ℕ)) → PartPromise day w own server part
      → PartPromise day w own server other → SamePart part other
  pub next_job : (rows : List ℕ) (from : ℕ) → AtMostOne (NextJob rows from)
  -- ledger
  pub ledger : (day : Day) (w : Windows) (starts : List ℕ) → AtMostOne (LedgerPromise day w starts)
  pub slot : (day : Day) (w : Windows) (starts : List ℕ) (asked : ℕ) → AtMostOne (SlotPromise day w starts asked)
  -- cutlist
  pub cut_rows : (slot n : ℕ) (releases deadlines starts : List ℕ) → AtMostOne (HoldsCut slot n releases deadlines starts)
  -- fieldday
  pub open_day : (day : Day) (releases deadlines starts : List ℕ) → AtMostOne (OpenPromise day releases deadlines starts)
  pub advance : (f : FieldDay) → AtMostOne (AdvancePromise f)
  pub add : (f : FieldDay) (release deadline : ℕ) (table : List ℕ)
      → AtMostOne {A = FieldAnswer × List ℕ} (λ o. AddPromise f release deadline table o.0 o.1)
  pub offer : (f : FieldDay) (server : List ℕ) → AtMostOne (OfferPromise f server)
  -- moving
  pub move_list : (slots : ℕ) (by : ℤ) (releases deadlines : List ℕ)
      → AtMostOne {A = Answer × List ℕ × List ℕ} (λ o. MovePromise slots by releases deadlines o.0 o.1 o.2)
  -- dayfile
  pub read : (file releases deadlines : List ℕ)
      → AtMostOne {A = Reading × List ℕ × List ℕ} (λ o. ReadPromise file releases deadlines o.0 o.1 o.2)
  -- filewriter
  pub write : (notes : ℕ) (day : Day) (releases deadlines file : List ℕ)
      → AtMostOne {A = Answer × List ℕ} (λ o. WritePromise notes day releases deadlines file o.0 o.1)
  -- chaskuri: the record forms that write a list, and the slot's record in numbers; what the others promise is a promise above, at the list's windows
  pub move_jobs : (slots : ℕ) (by : ℤ) (jobs : List Job)
      → AtMostOne {A = Answer × List Job}
      (λ o. MovePromise slots by (releases jobs) (deadlines jobs) o.0 (releases o.1) (deadlines o.1))
  pub read_jobs : (file : List ℕ) (jobs : List Job)
      → AtMostOne {A = Reading × List Job} (λ o. ReadPromise file (releases jobs) (deadlines jobs) o.0 (releases o.1) (deadlines o.1))
  pub slot_numbers : (day : Day) (w : Windows) (starts : List ℕ) (asked : ℕ) → AtMostOne (SlotNumbered day w starts asked)
  -- report
  pub plan_file : (file starts table : List ℕ)
      → AtMostOne {A = Outcome × List ℕ × List ℕ} (λ o. FilePromise file starts table o.0 o.1 o.2)
  pub report : (file table : List ℕ) → AtMostOne {A = Text × List ℕ} (λ o. ReportPromise file table o.0 o.1)
  -- text
  pub render : (bytes : List ℕ) → AtMostOne (Prints bytes)

-- what is said of an outcome is said of no other
abbrev pub SaysOne : {A B : Type 0} → (Result A Refusal → B) → Type 0
SaysOne {A} says = (x y : Result A Refusal) → says x ≡ says y → x ≡ y

pub record OneResult : Type 0 where
  pub check : SaysOne checked
  pub cost : SaysOne answered
  pub which : SaysOne (answered_by plan_number)
  pub judge : SaysOne claimed
  pub next_job : (rows : List ℕ) (from : ℕ) → AtMostOne (FoundJob rows from)
  pub crowded_span : SaysOne answered_span
  pub ledger : SaysOne ledger_answer
  pub slot : SaysOne slot_answer
  pub read : SaysOne as_reading
  pub plan_file : SaysOne outcome
