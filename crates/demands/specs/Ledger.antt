-- The slot ledger: its five counts add up to T, and the plan costs its awake slots and a wake for each sleeping gap; what lies before the
-- first job and after the last; and one slot's record.
use Rattle.std.specs.Prelude.{ℕ, ◌+◌, ◌-◌, ◌*◌, ◌≤◌, ◌<◌, ◌≡◌, List}
use Rattle.day.specs.declared.Day.{Day}
use Rattle.day.specs.Windows.{Windows, at}
use Rattle.day.specs.Plan.{taken}
use Rattle.day.specs.Gap.{asleep, gaps, cost}
use Rattle.checks.specs.Answer.{done}
use Rattle.ledger.specs.declared.Fill.TheVariants.{Job}
use Rattle.ledger.specs.declared.SlotAnswer.{SlotAnswer}
use Rattle.ledger.specs.declared.Counts.{Counts}
use Rattle.ledger.specs.declared.LedgerAnswer.{LedgerAnswer}
use Rattle.ledger.specs.Sleep.{SleepTest, sleeps}
use Rattle.ledger.specs.Promise.{LedgerPromise, SlotPromise}

pub record Balanced (test : SleepTest) (day : Day) (w : Windows) (starts : List ℕ) (counts : Counts) : Type 0 where
  pub slots : counts.before + counts.job + counts.awake + counts.asleep + counts.after ≡ day.slots
  pub cost : cost day w.count (at starts)
      ≡ counts.awake + day.power.wake * sleeps test (gaps (taken w.count (at starts)) 0 day.slots)

-- without jobs before is T and the rest 0
abbrev pub all_before : ℕ → Counts
all_before slots = record { before = slots; job = 0; awake = 0; asleep = 0; after = 0 }

-- row i is the first, or the last: no row starts earlier, or later

abbrev pub StartsFirst : Windows → List ℕ → ℕ → Type 0
StartsFirst w starts i = (i < w.count) × ((j : ℕ) → j < w.count → at starts i ≤ at starts j)

abbrev pub StartsLast : Windows → List ℕ → ℕ → Type 0
StartsLast w starts i = (i < w.count) × ((j : ℕ) → j < w.count → at starts j ≤ at starts i)

-- with jobs before and after are the empty slots outside first and last job
pub record OuterSlots (day : Day) (w : Windows) (starts : List ℕ) (counts : Counts) : Type 0 where
  pub no_jobs : w.count ≡ 0 → counts ≡ all_before day.slots
  pub before : (i : ℕ) → StartsFirst w starts i → counts.before ≡ at starts i
  pub after : (i : ℕ) → StartsLast w starts i → counts.after ≡ day.slots - (at starts i + 1)

-- of every ledger that keeps its promise, under code 0
abbrev pub OfLedger : (Day → Windows → List ℕ → Counts → Type 0) → Type 0
OfLedger Says =
    (day : Day) (w : Windows) (starts : List ℕ) (ledger : LedgerAnswer) → LedgerPromise day w starts ledger
    → ledger.answer.code ≡ done
    → Says day w starts ledger.counts

abbrev pub LedgerBalances : Type 0
LedgerBalances = OfLedger (λ day. Balanced (asleep day.power) day)

abbrev pub LedgerOuter : Type 0
LedgerOuter = OfLedger OuterSlots

-- a slot in which a row starts is shown with the job and its row
abbrev pub RowShown : Type 0
RowShown =
    (day : Day) (w : Windows) (starts : List ℕ) (asked : ℕ) (shown : SlotAnswer) → SlotPromise day w starts asked shown
    → shown.answer.code ≡ done
    → (i : ℕ) → i < w.count → at starts i ≡ asked
    → shown.held ≡ record { slot = asked; fill = Job (i + 1) }
