-- Document 02, T-03: a gap is asleep exactly if it has more than L slots. Document 01 had the gap of exactly L slots asleep as well; what that moves is
-- said of the two promises, by 01's test and by the ledger's own.
use Rattle.std.specs.Prelude.{ℕ, ◌+◌, ◌≤◌, ◌<◌, ◌≡◌, List, leb}
use Rattle.day.specs.declared.Power.{Power}
use Rattle.day.specs.declared.Day.{Day}
use Rattle.day.specs.Windows.{Windows}
use Rattle.day.specs.Plan.{Plan, taken}
use Rattle.day.specs.Gap.{asleep, gaps, total, cost}
use Rattle.day.specs.Count.{Count}
use Rattle.checks.specs.Answer.{done}
use Rattle.checks.specs.Check.{ListCheck}
use Rattle.ledger.specs.declared.Fill.TheVariants.{Awake, Asleep}
use Rattle.ledger.specs.declared.SlotAnswer.{SlotAnswer}
use Rattle.ledger.specs.declared.Counts.{Counts}
use Rattle.ledger.specs.declared.LedgerAnswer.{LedgerAnswer}
use Rattle.ledger.specs.Sleep.{SleepTest, paid}
use Rattle.ledger.specs.Fills.{InGap}
use Rattle.ledger.specs.Promise.{plan_row, LedgeredBy, LedgerPromise, ShownBy, SlotPromise}
use Rattle.demands.specs.Ledger.{Balanced}

-- a slot in a gap of g slots is shown asleep if g > L, and awake if g ≤ L
abbrev pub GapShown : Type 0
GapShown =
    (day : Day) (w : Windows) (starts : List ℕ) (asked : ℕ) (shown : SlotAnswer) → SlotPromise day w starts asked shown
    → shown.answer.code ≡ done
    → (g : ℕ) → InGap day.slots (plan_row w starts) asked g
    → (day.power.wake < g → shown.held.fill ≡ Asleep) × (g ≤ day.power.wake → shown.held.fill ≡ Awake)

-- document 01's own test, which T-03 replaced; only the comparison has it
unfoldable pub asleep_in_01 : Power → SleepTest
asleep_in_01 power g = leb power.wake g

-- what `ledger` and `slot` promised with it

abbrev pub LedgerPromiseIn01 : Day → Windows → List ℕ → LedgerAnswer → Type 0
LedgerPromiseIn01 day w = LedgeredBy (asleep_in_01 day.power) (ListCheck day w) day w

abbrev pub SlotPromiseIn01 : Day → Windows → List ℕ → ℕ → SlotAnswer → Type 0
SlotPromiseIn01 day w = ShownBy (asleep_in_01 day.power) (ListCheck day w) day w

-- slot t lies in a gap of exactly L slots; L ≥ 1 then, since a gap has a slot
abbrev pub InGapOfWake : Day → Windows → List ℕ → ℕ → Type 0
InGapOfWake day w starts t = InGap day.slots (plan_row w starts) t day.power.wake

-- the slots of the gaps of exactly L slots went from asleep to awake, and nothing else moved
pub record Woken (day : Day) (w : Windows) (starts : List ℕ) (old new : Counts) : Type 0 where
  pub woken : ℕ
  pub in_gaps_of_wake : Count (InGapOfWake day w starts) day.slots woken
  pub before : old.before ≡ new.before
  pub job : old.job ≡ new.job
  pub awake : old.awake + woken ≡ new.awake
  pub asleep : old.asleep ≡ new.asleep + woken
  pub after : old.after ≡ new.after

-- the ledger by 01's test and by its own
pub record LedgersOfBoth (day : Day) (w : Windows) (starts : List ℕ) (old new : LedgerAnswer) : Type 0 where
  pub answer : old.answer ≡ new.answer
  pub accepted : old.answer.code ≡ done → Woken day w starts old.counts new.counts
  pub refused : (old.answer.code ≡ done → ⊥) → old ≡ new
  pub no_such_gap : ((t : ℕ) → InGapOfWake day w starts t → ⊥) → old ≡ new
  pub no_wake : day.power.wake ≡ 0 → old ≡ new
  -- cost = awake + L × number of sleeping gaps held of the old counts too
  pub cost : old.answer.code ≡ done → Balanced (asleep_in_01 day.power) day w starts old.counts

abbrev pub LedgerByBoth : Type 0
LedgerByBoth =
    (day : Day) (w : Windows) (starts : List ℕ) (old new : LedgerAnswer)
    → LedgerPromiseIn01 day w starts old
    → LedgerPromise day w starts new
    → LedgersOfBoth day w starts old new

-- one slot's record by 01's test and by its own
pub record SlotsOfBoth (day : Day) (w : Windows) (starts : List ℕ) (asked : ℕ) (old new : SlotAnswer) : Type 0 where
  pub answer : old.answer ≡ new.answer
  pub in_gap_of_wake : old.answer.code ≡ done → InGapOfWake day w starts asked
      → (old.held ≡ record { slot = asked; fill = Asleep }) × (new.held ≡ record { slot = asked; fill = Awake })
  pub refused : (old.answer.code ≡ done → ⊥) → old ≡ new
  pub elsewhere : (InGapOfWake day w starts asked → ⊥) → old ≡ new

abbrev pub SlotByBoth : Type 0
SlotByBoth =
    (day : Day) (w : Windows) (starts : List ℕ) (asked : ℕ) (old new : SlotAnswer)
    → SlotPromiseIn01 day w starts asked old
    → SlotPromise day w starts asked new
    → SlotsOfBoth day w starts asked old new

-- what the machine pays by either test is the plan's cost: cost, and so the best plan, does not see which it is
abbrev pub CostByBoth : Type 0
CostByBoth =
    (day : Day) (n : ℕ) (start : Plan) →
    let lengths = gaps (taken n start) 0 day.slots in
    (cost day n start ≡ total (paid day.power (asleep_in_01 day.power)) lengths)
    × (cost day n start ≡ total (paid day.power (asleep day.power)) lengths)
