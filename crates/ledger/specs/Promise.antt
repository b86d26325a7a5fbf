-- What the ledger and one slot's record promise.
use Rattle.std.specs.Prelude.{ℕ, ◌≤◌, ◌≡◌, List, Result, Ok, Err}
use Rattle.checks.specs.declared.Answer.{Answer}
use Rattle.checks.specs.declared.outcome.Refusal.{Refusal}
use Rattle.day.specs.declared.Day.{Day}
use Rattle.day.specs.Windows.{Windows, at}
use Rattle.day.specs.Gap.{asleep}
use Rattle.checks.specs.Answer.{says, done, no_such_slot, refused}
use Rattle.checks.specs.Refusal.{◌then◌, Passed, Refuses}
use Rattle.checks.specs.Check.{ListCheck}
use Rattle.claim.specs.Claim.{ClaimCheck}
use Rattle.claim.specs.Rows.{row_at}
use Rattle.ledger.specs.declared.Fill.TheVariants.{Before}
use Rattle.ledger.specs.declared.SlotFill.{SlotFill}
use Rattle.ledger.specs.declared.SlotAnswer.{SlotAnswer}
use Rattle.ledger.specs.declared.Counts.{Counts}
use Rattle.ledger.specs.declared.LedgerAnswer.{LedgerAnswer}
use Rattle.ledger.specs.Sleep.{SleepTest}
use Rattle.ledger.specs.Fills.{Fills}
use Rattle.ledger.specs.Count.{Counted}

-- the row that the plan puts in each slot
abbrev pub plan_row : Windows → List ℕ → ℕ → ℕ
plan_row w starts = row_at w.count (at starts)

abbrev pub no_counts : Counts
no_counts = record { before = 0; job = 0; awake = 0; asleep = 0; after = 0 }

-- what an outcome of the ledger is as its answer
abbrev pub ledger_answer : Result Counts Refusal → LedgerAnswer
ledger_answer (Ok counts) = record { answer = says done 0 0; counts = counts }
ledger_answer (Err refusal) = record { answer = refused refusal; counts = no_counts }

-- the ledger by a sleep test, for any check of the list: refused as pricing, or the five counts of the plan
pub record LedgeredBy (test : SleepTest) (Check : Answer → Type 0) (day : Day) (w : Windows) (starts : List ℕ) (answered : LedgerAnswer) : Type 0 where
  pub answer : (ClaimCheck Check w starts then Passed) answered.answer
  pub accepted : answered.answer.code ≡ done → Counted test day.slots (plan_row w starts) answered.counts
  pub refused : (answered.answer.code ≡ done → ⊥) → answered.counts ≡ no_counts

-- by the sleep test of the day's power
abbrev pub Ledgered : (Answer → Type 0) → Day → Windows → List ℕ → LedgerAnswer → Type 0
Ledgered Check day = LedgeredBy (asleep day.power) Check day

-- what `ledger` promises: codes 1 to 4 for the list
abbrev pub LedgerPromise : Day → Windows → List ℕ → LedgerAnswer → Type 0
LedgerPromise day w = Ledgered (ListCheck day w) day w

-- what a refused slot record holds
abbrev pub no_slot : SlotFill
no_slot = record { slot = 0; fill = Before }

-- what an outcome of `slot` is as its answer
abbrev pub slot_answer : Result SlotFill Refusal → SlotAnswer
slot_answer (Ok held) = record { answer = says done 0 0; held = held }
slot_answer (Err refusal) = record { answer = refused refusal; held = no_slot }

-- the slot asked for is T or more
abbrev pub AskedCheck : Day → ℕ → Answer → Type 0
AskedCheck day asked = Refuses no_such_slot (day.slots ≤ asked)

-- one slot of a plan by a sleep test, for any check of the list: refused as pricing, then by 19, or the slot and what fills it
pub record ShownBy (test : SleepTest) (Check : Answer → Type 0) (day : Day) (w : Windows) (starts : List ℕ) (asked : ℕ) (shown : SlotAnswer) : Type 0 where
  pub answer : (ClaimCheck Check w starts then AskedCheck day asked then Passed) shown.answer
  pub slot : shown.answer.code ≡ done → shown.held.slot ≡ asked
  pub fill : shown.answer.code ≡ done → Fills test day.slots (plan_row w starts) asked shown.held.fill
  pub refused : (shown.answer.code ≡ done → ⊥) → shown.held ≡ no_slot

-- what `slot` promises: codes 1 to 4 for the list
abbrev pub SlotPromise : Day → Windows → List ℕ → ℕ → SlotAnswer → Type 0
SlotPromise day w = ShownBy (asleep day.power) (ListCheck day w) day w
