-- Two outcomes of a call are equal. Assumes nothing.
use Prim.Native.Nat.{ℕ, ◌+◌}
use mathlib.Core.Path.{◌≡◌, sym, ◌∙◌}
use mathlib.Core.List.{List}
use native.Mathlib.Omega.{arith}
use Rattle.day.specs.declared.Day.{Day}
use Rattle.day.specs.Windows.{windows}
use Rattle.day.proofs.Cases.{give, on_eq}
use Rattle.checks.specs.declared.Answer.{Answer}
use Rattle.checks.specs.Answer.{done}
use Rattle.checks.proofs.Refusal.{then_unique, passed_unique, then_done}
use Rattle.checks.proofs.Check.{list_is_check}
use Rattle.checks.proofs.Unique.{planned_unique}
use Rattle.claim.proofs.Unique.{priced_unique}
use Rattle.planner.specs.Table.{need}
use Rattle.fieldday.specs.declared.FieldDay.{FieldDay}
use Rattle.fieldday.specs.declared.FieldAnswer.{FieldAnswer}
use Rattle.fieldday.specs.Held.{cut_with}
use Rattle.fieldday.specs.Promise.{
  Kept,
  OpenPromise,
  AdvancePromise,
  AddCheck,
  AddPromise,
  Weighed,
  cheaper,
  no_cheaper,
  OfferPromise,
}
use Rattle.fieldday.proofs.Checks.{advance_is_check, add_is_check, offer_is_check}

-- a refused call gives one day back, so what is left is the day under 0
same_outcome : {f : FieldDay} (r s : FieldAnswer) → r.answer ≡ s.answer → Kept f r → Kept f s
    → (r.answer.code ≡ done → r.held ≡ s.held) → r ≡ s
same_outcome r s answer kept other same = rw (answer, held)
  where
    held : r.held ≡ s.held
    held = on_eq r.answer.code done same (λ n. kept n ∙ sym (other (rw answer at n)))

pub open_unique : (day : Day) (releases deadlines starts : List ℕ) (r s : FieldAnswer) → OpenPromise day releases deadlines starts r
    → OpenPromise day releases deadlines starts s → r ≡ s
open_unique day releases deadlines starts r s p q =
    give (priced_unique list_is_check day (windows releases deadlines) starts r.answer s.answer p.answer q.answer)
    (λ answer. same_outcome r s answer p.refused q.refused (λ e. p.opened e ∙ sym (q.opened (rw answer at e))))

pub advance_unique : (f : FieldDay) (r s : FieldAnswer) → AdvancePromise f r → AdvancePromise f s → r ≡ s
advance_unique f r s p q =
    give (passed_unique (advance_is_check f) r.answer s.answer p.answer q.answer)
    (λ answer. same_outcome r s answer p.refused q.refused (λ e. p.advanced e ∙ sym (q.advanced (rw answer at e))))

pub add_unique : (f : FieldDay) (release deadline : ℕ) (table : List ℕ) (r s : FieldAnswer) (t u : List ℕ)
    → AddPromise f release deadline table r t → AddPromise f release deadline table s u → (r ≡ s) × (t ≡ u)
add_unique f release deadline table r s t u p q =
    give
    (planned_unique (AddCheck f release deadline table) (need f.day.slots (f.count + 1)) f.day (cut_with f release deadline) f.starts
    table (add_is_check f release deadline table) r.answer s.answer p.starts_after t q.starts_after u p.planned q.planned)
    (λ same. (
      same_outcome r s same.0 p.refused q.refused
          (λ e. p.added e ∙ rw same.1 (sym (q.added (rw same.0 at e)))),
      same.2,
    ))

weighed_unique : (f : FieldDay) (server : List ℕ) (a b : Answer) → Weighed f server a → Weighed f server b → a ≡ b
weighed_unique f server a b (cheaper l e) (cheaper m g) = e ∙ sym g
weighed_unique f server a b (cheaper l e) (no_cheaper m g) = absurd (omega arith)
weighed_unique f server a b (no_cheaper l e) (cheaper m g) = absurd (omega arith)
weighed_unique f server a b (no_cheaper l e) (no_cheaper m g) = e ∙ sym g

pub offer_unique : (f : FieldDay) (server : List ℕ) (r s : FieldAnswer) → OfferPromise f server r → OfferPromise f server s → r ≡ s
offer_unique f server r s p q =
    give (then_unique (offer_is_check f server) (weighed_unique f server) r.answer s.answer p.answer q.answer)
    (λ answer.
    same_outcome r s answer p.refused q.refused
    (λ e. held answer (then_done (offer_is_check f server) r.answer p.answer e)))
  where
    held : r.answer ≡ s.answer → Weighed f server r.answer → r.held ≡ s.held
    held same (cheaper l e) = p.taken e ∙ sym (q.taken (sym same ∙ e))
    held same (no_cheaper l e) = p.left e ∙ sym (q.left (sym same ∙ e))
