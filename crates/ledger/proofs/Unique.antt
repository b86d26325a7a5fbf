-- Two outcomes that keep a promise of the ledger are equal. Assumes nothing.
use Prim.Native.Nat.{ℕ, ◌<◌}
use mathlib.Core.Path.{◌≡◌, sym, ◌∙◌}
use mathlib.Core.List.{List}
use native.Mathlib.Omega.{arith}
use Rattle.checks.specs.declared.Answer.{Answer}
use Rattle.day.specs.declared.Day.{Day}
use Rattle.day.specs.Windows.{Windows}
use Rattle.checks.specs.Answer.{done}
use Rattle.checks.specs.Refusal.{◌then◌, Passed}
use Rattle.day.proofs.Cases.{on_eq, on_le}
use Rattle.day.proofs.Count.{count_unique}
use Rattle.checks.proofs.Refusal.{IsCheck, refuses_is_check, then_unique, passed_unique, then_done, passed_clear, no_fault}
use Rattle.claim.proofs.Claim.{claim_is_check}
use Rattle.ledger.specs.declared.Counts.{Counts}
use Rattle.ledger.specs.declared.LedgerAnswer.{LedgerAnswer}
use Rattle.ledger.specs.declared.SlotAnswer.{SlotAnswer}
use Rattle.ledger.specs.Sleep.{SleepTest}
use Rattle.ledger.specs.Count.{Counted}
use Rattle.ledger.specs.Promise.{LedgeredBy, AskedCheck, ShownBy}
use Rattle.ledger.proofs.Fills.{fills_unique}

counted_unique : {test : SleepTest} {slots : ℕ} {row : ℕ → ℕ} {c d : Counts} → Counted test slots row c → Counted test slots row d → c ≡ d
counted_unique p q =
    rw (
      count_unique p.before q.before,
      count_unique p.job q.job,
      count_unique p.awake q.awake,
      count_unique p.asleep q.asleep,
      count_unique p.after q.after,
    )

-- the answer does not depend on the sleep test
pub ledgered_answer : {test other : SleepTest} {Check : Answer → Type 0} → IsCheck Check → (day : Day) (w : Windows) (starts : List ℕ)
    (a b : LedgerAnswer) → LedgeredBy test Check day w starts a → LedgeredBy other Check day w starts b → a.answer ≡ b.answer
ledgered_answer check day w starts a b p q = passed_unique (claim_is_check check w starts) a.answer b.answer p.answer q.answer

pub ledgered_unique : {test : SleepTest} {Check : Answer → Type 0} → IsCheck Check → (day : Day) (w : Windows) (starts : List ℕ) (a b : LedgerAnswer)
    → LedgeredBy test Check day w starts a → LedgeredBy test Check day w starts b → a ≡ b
ledgered_unique check day w starts a b p q = rw (same_answer, same_counts)
  where
    same_answer : a.answer ≡ b.answer
    same_answer = ledgered_answer check day w starts a b p q

    same_counts : a.counts ≡ b.counts
    same_counts =
        on_eq a.answer.code done
        (λ e. counted_unique (p.accepted e) (q.accepted (rw same_answer at e)))
        (λ e. p.refused e ∙ sym (q.refused (rw same_answer at e)))

asked_is_check : (day : Day) (asked : ℕ) → IsCheck (AskedCheck day asked)
asked_is_check day asked = refuses_is_check (λ e. omega arith)

-- a slot that is shown is a slot of the day
shown_within : {Check : Answer → Type 0} → IsCheck Check → (day : Day) (asked : ℕ) (a : Answer)
    → (Check then AskedCheck day asked then Passed) a → a.code ≡ done → asked < day.slots
shown_within check day asked a p e =
    on_le day.slots asked (λ h. absurd (no_fault (passed_clear (asked_is_check day asked) a (then_done check a p e) e) h)) (λ h. h)

pub shown_answer : {test other : SleepTest} {Check : Answer → Type 0} → IsCheck Check → (day : Day) (w : Windows) (starts : List ℕ) (asked : ℕ)
    (a b : SlotAnswer) → ShownBy test Check day w starts asked a → ShownBy other Check day w starts asked b → a.answer ≡ b.answer
shown_answer check day w starts asked a b p q =
    then_unique (claim_is_check check w starts) (passed_unique (asked_is_check day asked)) a.answer b.answer p.answer q.answer

pub shown_unique : {test : SleepTest} {Check : Answer → Type 0} → IsCheck Check → (day : Day) (w : Windows) (starts : List ℕ) (asked : ℕ) (a b : SlotAnswer)
    → ShownBy test Check day w starts asked a → ShownBy test Check day w starts asked b → a ≡ b
shown_unique check day w starts asked a b p q =
    on_eq a.answer.code done
    (λ e.
    let f : b.answer.code ≡ done = rw same_answer at e in
    rw (
      same_answer,
      p.slot e ∙ sym (q.slot f),
      fills_unique (shown_within (claim_is_check check w starts) day asked a.answer p.answer e) (p.fill e) (q.fill f),
    ))
    (λ e. rw (same_answer, p.refused e ∙ sym (q.refused (rw same_answer at e))))
  where
    same_answer : a.answer ≡ b.answer
    same_answer = shown_answer check day w starts asked a b p q
