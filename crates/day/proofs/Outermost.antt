-- The row whose start comes last, and the row whose start comes first. Assumes nothing.
use Prim.Native.Nat.{ℕ, zero, suc, ◌≤◌, ◌<◌}
use mathlib.Core.Path.{◌≡◌, ap}
use mathlib.Core.Logic.{◌⊎◌, inl, inr, ⊎_elim}
use native.Mathlib.Omega.{arith}
use Rattle.day.specs.Plan.{Plan}
use Rattle.day.proofs.Cases.{give, on_le, on_eq}

-- a row such that the starts of all lie on one side of its own
pub record Outermost (Order : ℕ → ℕ → Type 0) (n : ℕ) (p : Plan) : Type 0 where
  pub row : ℕ
  pub below : row < n
  pub others : (i : ℕ) → i < n → Order (p i) (p row)

module _ (Order : ℕ → ℕ → Type 0)
    (total : (a b : ℕ) → Order a b ⊎ Order b a)
    (through : (a b c : ℕ) → Order a b → Order b c → Order a c) where
  order_same : (a b : ℕ) → a ≡ b → Order a b
  order_same a b e = rw e (⊎_elim (λ h. h) (λ h. h) (total b b))

  outermost : (n : ℕ) (p : Plan) → 0 < n → Outermost Order n p
  outermost zero p some = absurd (omega arith)
  outermost (suc zero) p some =
      record { row = 0; below = omega arith; others = λ i l. order_same (p i) (p 0) (ap p (omega arith)) }
  outermost (suc (suc n)) p some =
      give (outermost (suc n) p (omega arith))
      (λ w.
      ⊎_elim
      (λ h.
      record {
        row = w.row;
        below = omega arith;
        others = λ i l. on_eq i (suc n) (λ q. rw q h) (λ q. w.others i (omega arith));
      })
      (λ h.
      record {
        row = suc n;
        below = omega arith;
        others = λ i l.
            on_eq i (suc n) (λ q. order_same (p i) (p (suc n)) (ap p q))
            (λ q. through (p i) (p w.row) (p (suc n)) (w.others i (omega arith)) h);
      })
      (total (p (suc n)) (p w.row)))

abbrev pub Earlier : ℕ → ℕ → Type 0
Earlier a b = a ≤ b

abbrev pub Later : ℕ → ℕ → Type 0
Later a b = b ≤ a

pub last_start : (n : ℕ) (p : Plan) → 0 < n → Outermost Earlier n p
last_start = outermost Earlier (λ a b. on_le a b inl (λ h. inr (omega arith))) (λ a b c h k. omega arith)

pub first_start : (n : ℕ) (p : Plan) → 0 < n → Outermost Later n p
first_start = outermost Later (λ a b. on_le a b inr (λ h. inl (omega arith))) (λ a b c h k. omega arith)
