-- Laws of what is done when: a row is among those in a slot once if the plan has it there, else not. Assumes nothing.
use Prim.Native.Nat.{ℕ, zero, suc, ◌+◌, ◌<◌}
use mathlib.Core.Path.{◌≡◌, refl, sym, ◌∙◌, ap}
use mathlib.Core.List.{List, [], ◌∷◌, ◌++◌}
use native.Mathlib.Nat.{zero-add}
use native.Mathlib.Omega.{arith}
use lib.Dec.{eqb}
use borrow.Author.Tests.{eq-eqb, ne_eqb}
use Rattle.day.specs.Plan.{Plan}
use Rattle.day.proofs.Cases.{give, on, on_eq}
use Rattle.demands.specs.History.{rows_in, times}

-- how many times a row is in a list

times_this : (i row : ℕ) (rows : List ℕ) → row ≡ i → times i (row ∷ rows) ≡ suc (times i rows)
unfolding times
times_this i row rows e = rw (eq-eqb row i e)

times_other : (i row : ℕ) (rows : List ℕ) → (row ≡ i → ⊥) → times i (row ∷ rows) ≡ times i rows
unfolding times
times_other i row rows n = rw (ne_eqb row i n)

pub times_append : (i : ℕ) (rows more : List ℕ) → times i (rows ++ more) ≡ times i rows + times i more
unfolding times
times_append i [] more = sym (zero-add (times i more))
times_append i (row ∷ rows) more =
    on (eqb row i) (λ e. rw e (omega (arith, times_append i rows more))) (λ e. rw e (times_append i rows more))

-- the rows in a slot: each that the plan has there is in them once

module _ (start : Plan) (slot : ℕ) where
  in_slot : (n : ℕ) → start n ≡ slot → rows_in (suc n) start slot ≡ n ∷ rows_in n start slot
  unfolding rows_in
  in_slot n e = rw (eq-eqb (start n) slot e)

  not_in_slot : (n : ℕ) → (start n ≡ slot → ⊥) → rows_in (suc n) start slot ≡ rows_in n start slot
  unfolding rows_in
  not_in_slot n e = rw (ne_eqb (start n) slot e)

  pub none_in : (i n : ℕ) → (i < n → start i ≡ slot → ⊥) → times i (rows_in n start slot) ≡ 0
  unfolding rows_in times
  none_in i zero out = refl
  none_in i (suc n) out =
      give (none_in i n (λ l. out (omega arith)))
      (λ before.
      on_eq (start n) slot
      (λ e. rw (in_slot n e) (times_other i n (rows_in n start slot) (λ q. out (omega arith) (rw (← q) e)) ∙ before))
      (λ e. rw (not_in_slot n e) before))

  pub once_in : (i n : ℕ) → i < n → start i ≡ slot → times i (rows_in n start slot) ≡ 1
  once_in i zero l e = absurd (omega arith)
  once_in i (suc n) l e =
      on_eq n i
      (λ q.
      rw (in_slot n (rw q e)) (times_this i n (rows_in n start slot) q ∙ ap suc (none_in i n (λ b. absurd (omega arith)))))
      (λ q.
      give (once_in i n (omega arith) e)
      (λ before.
      on_eq (start n) slot (λ h. rw (in_slot n h) (times_other i n (rows_in n start slot) q ∙ before))
      (λ h. rw (not_in_slot n h) before)))
