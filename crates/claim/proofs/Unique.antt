-- Two outcomes that keep a promise of this crate are equal. Assumes nothing.
use Prim.Native.Nat.{ℕ, ◌≤◌}
use mathlib.Core.Path.{◌≡◌, refl, sym, ◌∙◌, ap}
use mathlib.Core.List.{List}
use native.Mathlib.Omega.{arith}
use lib.ListN.{length}
use lib.Seq.{ext_get_or}
use Rattle.std.specs.Prelude.{Option, Some, None, max}
use Rattle.checks.specs.declared.Answer.{Answer}
use Rattle.day.specs.declared.Day.{Day}
use Rattle.day.specs.Windows.{Windows}
use Rattle.day.specs.Plan.{Plan}
use Rattle.checks.specs.Answer.{done}
use Rattle.day.proofs.Cases.{on_eq, on_le}
use Rattle.checks.proofs.Refusal.{IsCheck, then_unique, passed_unique}
use Rattle.claim.specs.Claim.{Priced}
use Rattle.claim.specs.Rows.{RowsBySlot, NextJob, FoundJob, Claimed, Judged}
use Rattle.claim.proofs.Claim.{claim_is_check}

pub priced_unique : {Check : Answer → Type 0} → IsCheck Check → (day : Day) (w : Windows) (starts : List ℕ) (a b : Answer)
    → Priced Check day w starts a → Priced Check day w starts b → a ≡ b
priced_unique check day w starts = then_unique (claim_is_check check w starts) (λ a b p q. p ∙ sym q)

rows_unique : {n : ℕ} {start : Plan} {rows others : List ℕ} → RowsBySlot n start rows → RowsBySlot n start others → rows ≡ others
rows_unique {n} {start} {rows} {others} p q =
    ext_get_or 0 rows others (p.long ∙ sym q.long)
    (λ t h. p.each t (omega (arith, p.long)) ∙ sym (q.each t (omega (arith, p.long))))

pub judged_unique : {Check : Answer → Type 0} → IsCheck Check → (w : Windows) (starts : List ℕ) (c d : Claimed)
    → Judged Check w starts c → Judged Check w starts d → c ≡ d
judged_unique check w starts c d p q = rw (same_answer, same_rows)
  where
    same_answer : c.answer ≡ d.answer
    same_answer = passed_unique (claim_is_check check w starts) c.answer d.answer p.answer q.answer

    same_rows : c.rows ≡ d.rows
    same_rows =
        on_eq c.answer.code done
        (λ e. rows_unique (p.rows.accepted e) (q.rows.accepted (rw same_answer at e)))
        (λ e. rows_unique (p.rows.refused e) (q.rows.refused (rw same_answer at e)))

next_at_most : {rows : List ℕ} {from a b : ℕ} → NextJob rows from a → NextJob rows from b → b ≤ a
next_at_most {rows} {from} {a} {b} p q =
    on_le b a (λ h. h)
    (λ h.
    on_le (length rows) a (λ l. omega (arith, q.within (omega (arith, p.later)))) (λ l. absurd (q.empty_before a h p.later (p.job l))))

pub next_unique : (rows : List ℕ) (from a b : ℕ) → NextJob rows from a → NextJob rows from b → a ≡ b
next_unique rows from a b p q = omega (arith, next_at_most p q, next_at_most q p)

pub found_unique : (rows : List ℕ) (from : ℕ) (a b : Option ℕ) → FoundJob rows from a → FoundJob rows from b → a ≡ b
found_unique rows from (Some s) (Some t) p q = ap Some (next_unique rows from s t p.1 q.1)
found_unique rows from (Some s) None p q = absurd (omega (arith, p.0, next_unique rows from s (max from (length rows)) p.1 q))
found_unique rows from None (Some t) p q = absurd (omega (arith, q.0, next_unique rows from t (max from (length rows)) q.1 p))
found_unique rows from None None p q = refl
