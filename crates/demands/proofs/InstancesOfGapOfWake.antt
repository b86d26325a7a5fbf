-- What the theorems on a gap of exactly L slots ask is met by P8 with L 3 and its second job at 4: gaps of 3 slots, which is L, and of 4.
-- Assumes nothing.
use mathlib.Core.Path.{◌≡◌, refl}
use mathlib.Core.List.{[], ◌∷◌}
use native.Mathlib.Omega.{arith}
use Rattle.day.specs.Gap.{asleep}
use Rattle.claim.specs.Rows.{row_at, holds_job}
use Rattle.rule.specs.Extreme.{latest}
use Rattle.ledger.specs.declared.Fill.TheVariants.{Awake, Asleep}
use Rattle.ledger.specs.Fills.{InGap}
use Rattle.ledger.specs.Promise.{plan_row}
use Rattle.ledger.proofs.CountedAs.{gain}
use Rattle.demands.specs.ExamplesTable.{P8}
use Rattle.demands.specs.ExamplesOfClaims.{Claim, claim_of}
use Rattle.demands.specs.ExamplesOfLedger.{LedgersTo, ledger_with, FilledAs, ◌at_slot◌, slot_with}
use Rattle.demands.specs.GapOfWake.{asleep_in_01, LedgerPromiseIn01, SlotPromiseIn01, InGapOfWake, LedgersOfBoth}
use Rattle.demands.proofs.Test.{both}
use Rattle.demands.proofs.ExamplesOfLedger.{gap_test, ledger_test, slot_test}
use Rattle.demands.proofs.GapOfWake.{ledger_by_both}

abbrev claimed : Claim
claimed = claim_of P8 10 3 (0 ∷ 4 ∷ 9 ∷ [])

pub in_gap_of_wake : InGapOfWake claimed.day claimed.rows claimed.starts 3
unfolding row_at
in_gap_of_wake = (gap_test (asleep claimed.day.power) 10 (plan_row claimed.rows claimed.starts) 3 0 3).shows refl

pub in_longer_gap : InGap 10 (plan_row claimed.rows claimed.starts) 5 4
unfolding row_at
in_longer_gap = (gap_test (asleep claimed.day.power) 10 (plan_row claimed.rows claimed.starts) 5 4 4).shows refl

pub ledgers : LedgerPromiseIn01 claimed.day claimed.rows claimed.starts (ledger_with 0 3 0 7 0) × LedgersTo claimed (ledger_with 0 3 3 4 0)
unfolding gain latest holds_job row_at asleep asleep_in_01
ledgers =
    (both (ledger_test (asleep_in_01 claimed.day.power) claimed.day claimed.rows claimed.starts (ledger_with 0 3 0 7 0))
    (ledger_test (asleep claimed.day.power) claimed.day claimed.rows claimed.starts (ledger_with 0 3 3 4 0))).shows refl

pub slots : SlotPromiseIn01 claimed.day claimed.rows claimed.starts 3 (slot_with 3 Asleep) × FilledAs (claimed at_slot 3) (slot_with 3 Awake)
unfolding latest holds_job row_at asleep asleep_in_01
slots =
    (both (slot_test (asleep_in_01 claimed.day.power) (claimed at_slot 3) (slot_with 3 Asleep))
    (slot_test (asleep claimed.day.power) (claimed at_slot 3) (slot_with 3 Awake))).shows refl

pub longer_slot : FilledAs (claimed at_slot 5) (slot_with 5 Asleep)
unfolding latest holds_job row_at asleep
longer_slot = (slot_test (asleep claimed.day.power) (claimed at_slot 5) (slot_with 5 Asleep)).shows refl

pub compared : LedgersOfBoth claimed.day claimed.rows claimed.starts (ledger_with 0 3 0 7 0) (ledger_with 0 3 3 4 0)
compared = ledger_by_both claimed.day claimed.rows claimed.starts (ledger_with 0 3 0 7 0) (ledger_with 0 3 3 4 0) ledgers.0 ledgers.1

-- the three slots of the gap were woken
pub three_woken : (compared.accepted refl).woken ≡ 3
three_woken = omega (arith, (compared.accepted refl).awake)
