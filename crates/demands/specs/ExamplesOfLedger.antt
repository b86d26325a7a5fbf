-- Examples of the slot ledger and of one slot's record, with document 01's own numbers; a gap of exactly L slots is awake, as 02, T-03, has it.
use Rattle.std.specs.Prelude.{ℕ, List, [], ◌∷◌}
use Rattle.checks.specs.declared.Answer.{Answer}
use Rattle.ledger.specs.declared.Fill.{Fill}
use Rattle.ledger.specs.declared.Fill.TheVariants.{Job, Before, Awake, Asleep, After}
use Rattle.ledger.specs.declared.Counts.{Counts}
use Rattle.ledger.specs.declared.LedgerAnswer.{LedgerAnswer}
use Rattle.ledger.specs.declared.SlotAnswer.{SlotAnswer}
use Rattle.ledger.specs.Promise.{LedgerPromise, SlotPromise}
use Rattle.demands.specs.ExamplesTable.{answer_of, ◌gives◌, Table, P8}
use Rattle.demands.specs.ExamplesOfClaims.{Claim, claim_of}

abbrev pub LedgersTo : Claim → LedgerAnswer → Type 0
LedgersTo claim = LedgerPromise claim.day claim.rows claim.starts

-- before, job, awake, asleep, after
abbrev pub counts_of : ℕ → ℕ → ℕ → ℕ → ℕ → Counts
counts_of before job awake asleep after =
    record { before = before; job = job; awake = awake; asleep = asleep; after = after }

abbrev pub ledger_with : ℕ → ℕ → ℕ → ℕ → ℕ → LedgerAnswer
ledger_with before job awake asleep after =
    record { answer = answer_of 0 0 0; counts = counts_of before job awake asleep after }

abbrev pub no_ledger : Answer → LedgerAnswer
no_ledger answer = record { answer = answer; counts = counts_of 0 0 0 0 0 }

-- rows that leave slots empty at both ends of a day of nine
abbrev pub within_the_day : List (ℕ × ℕ)
within_the_day = (2, 4) ∷ (3, 8) ∷ []

unfoldable pub ledger_examples : List (Claim × LedgerAnswer)
ledger_examples =
    -- P8 with L 3: gaps of 6 slots and 1; of 2, which is L - 1, and 5; of 3, which is L, and 4, which is L + 1
    claim_of P8 10 3 (0 ∷ 7 ∷ 9 ∷ []) gives ledger_with 0 3 1 6 0
    ∷ claim_of P8 10 3 (0 ∷ 3 ∷ 9 ∷ []) gives ledger_with 0 3 2 5 0
    ∷ claim_of P8 10 3 (0 ∷ 4 ∷ 9 ∷ []) gives ledger_with 0 3 3 4 0
    -- the same gaps of 3 and 4 slots with L 4 and L 2
    ∷ claim_of P8 10 4 (0 ∷ 4 ∷ 9 ∷ []) gives ledger_with 0 3 7 0 0
    ∷ claim_of P8 10 2 (0 ∷ 4 ∷ 9 ∷ []) gives ledger_with 0 3 0 7 0
    -- L 1: gaps of 1 slot, which is L, and 6; of 2, which is L + 1, and 5. L 0: of 1, which is L + 1, and 6
    ∷ claim_of P8 10 1 (0 ∷ 2 ∷ 9 ∷ []) gives ledger_with 0 3 1 6 0
    ∷ claim_of P8 10 1 (0 ∷ 3 ∷ 9 ∷ []) gives ledger_with 0 3 0 7 0
    ∷ claim_of P8 10 0 (0 ∷ 2 ∷ 9 ∷ []) gives ledger_with 0 3 0 7 0
    -- without jobs
    ∷ claim_of [] 5 3 [] gives ledger_with 5 0 0 0 0
    -- slots before the first job and after the last; with L 0 the machine always sleeps
    ∷ claim_of within_the_day 9 3 (2 ∷ 5 ∷ []) gives ledger_with 2 2 2 0 3
    ∷ claim_of within_the_day 9 0 (2 ∷ 5 ∷ []) gives ledger_with 2 2 0 2 3
    -- refused as pricing
    ∷ claim_of [] 0 3 [] gives no_ledger (answer_of 1 0 0)
    ∷ claim_of P8 10 1001 (0 ∷ 7 ∷ 9 ∷ []) gives no_ledger (answer_of 2 0 0)
    ∷ claim_of P8 10 3 (0 ∷ 7 ∷ []) gives no_ledger (answer_of 5 0 0)
    ∷ claim_of P8 10 3 (0 ∷ 8 ∷ 9 ∷ []) gives no_ledger (answer_of 14 2 0)
    ∷ claim_of ((0, 2) ∷ (0, 2) ∷ []) 2 1 (0 ∷ 0 ∷ []) gives no_ledger (answer_of 15 1 2)
    ∷ []

abbrev pub LedgerExamplesHold : Type 0
LedgerExamplesHold = Table LedgersTo ledger_examples

-- one slot of a claimed plan is asked for
pub record Asked : Type 0 where
  pub claim : Claim
  pub slot : ℕ

infix 69 ◌at_slot◌
abbrev pub ◌at_slot◌ : Claim → ℕ → Asked
claim at_slot slot = record { claim = claim; slot = slot }

abbrev pub FilledAs : Asked → SlotAnswer → Type 0
FilledAs asked = SlotPromise asked.claim.day asked.claim.rows asked.claim.starts asked.slot

abbrev pub slot_with : ℕ → Fill → SlotAnswer
slot_with slot fill = record { answer = answer_of 0 0 0; held = record { slot = slot; fill = fill } }

-- slot 0, filled by "before"
abbrev pub no_record : Answer → SlotAnswer
no_record answer = record { answer = answer; held = record { slot = 0; fill = Before } }

unfoldable pub slot_examples : List (Asked × SlotAnswer)
slot_examples =
    -- each job with its row
    claim_of P8 10 3 (0 ∷ 4 ∷ 9 ∷ []) at_slot 0 gives slot_with 0 (Job 1)
    ∷ claim_of P8 10 3 (0 ∷ 4 ∷ 9 ∷ []) at_slot 4 gives slot_with 4 (Job 2)
    ∷ claim_of P8 10 3 (0 ∷ 4 ∷ 9 ∷ []) at_slot 9 gives slot_with 9 (Job 3)
    ∷ claim_of ((3, 6) ∷ (0, 4) ∷ []) 6 3 (4 ∷ 3 ∷ []) at_slot 3 gives slot_with 3 (Job 2)
    -- gaps of L - 1, L and L + 1 slots
    ∷ claim_of P8 10 3 (0 ∷ 3 ∷ 9 ∷ []) at_slot 1 gives slot_with 1 Awake
    ∷ claim_of P8 10 3 (0 ∷ 3 ∷ 9 ∷ []) at_slot 2 gives slot_with 2 Awake
    ∷ claim_of P8 10 3 (0 ∷ 4 ∷ 9 ∷ []) at_slot 1 gives slot_with 1 Awake
    ∷ claim_of P8 10 3 (0 ∷ 4 ∷ 9 ∷ []) at_slot 3 gives slot_with 3 Awake
    ∷ claim_of P8 10 3 (0 ∷ 4 ∷ 9 ∷ []) at_slot 5 gives slot_with 5 Asleep
    ∷ claim_of P8 10 3 (0 ∷ 4 ∷ 9 ∷ []) at_slot 8 gives slot_with 8 Asleep
    -- of L and L + 1 with L 1, of L + 1 with L 0
    ∷ claim_of P8 10 1 (0 ∷ 2 ∷ 9 ∷ []) at_slot 1 gives slot_with 1 Awake
    ∷ claim_of P8 10 1 (0 ∷ 3 ∷ 9 ∷ []) at_slot 1 gives slot_with 1 Asleep
    ∷ claim_of P8 10 1 (0 ∷ 3 ∷ 9 ∷ []) at_slot 2 gives slot_with 2 Asleep
    ∷ claim_of P8 10 0 (0 ∷ 2 ∷ 9 ∷ []) at_slot 1 gives slot_with 1 Asleep
    -- before the first job and after the last, and without jobs
    ∷ claim_of within_the_day 9 3 (2 ∷ 5 ∷ []) at_slot 0 gives slot_with 0 Before
    ∷ claim_of within_the_day 9 3 (2 ∷ 5 ∷ []) at_slot 1 gives slot_with 1 Before
    ∷ claim_of within_the_day 9 3 (2 ∷ 5 ∷ []) at_slot 6 gives slot_with 6 After
    ∷ claim_of within_the_day 9 3 (2 ∷ 5 ∷ []) at_slot 8 gives slot_with 8 After
    ∷ claim_of [] 5 3 [] at_slot 4 gives slot_with 4 Before
    -- slot T and more; pricing's refusals come before
    ∷ claim_of P8 10 3 (0 ∷ 4 ∷ 9 ∷ []) at_slot 10 gives no_record (answer_of 19 0 0)
    ∷ claim_of P8 10 3 (0 ∷ 4 ∷ 9 ∷ []) at_slot 65535 gives no_record (answer_of 19 0 0)
    ∷ claim_of P8 10 3 (0 ∷ 8 ∷ 9 ∷ []) at_slot 10 gives no_record (answer_of 14 2 0)
    ∷ claim_of [] 97 3 [] at_slot 97 gives no_record (answer_of 1 0 0)
    ∷ []

abbrev pub SlotExamplesHold : Type 0
SlotExamplesHold = Table FilledAs slot_examples
