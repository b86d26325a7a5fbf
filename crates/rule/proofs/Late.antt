-- The tie rule on the jobs of a span, and how the two sides of a split make up the whole. Assumes nothing.
use Prim.Native.Nat.{ℕ, suc, ◌≤◌, ◌<◌}
use mathlib.Core.Path.{◌≡◌, ◌∙◌, ap}
use native.Mathlib.Omega.{arith}
use Rattle.day.proofs.Cases.{on_eq, on_le, give}
use Rattle.rule.specs.Span.{Problem}
use Rattle.rule.specs.SpanPlan.{In, LateInSpan, same, later}
use Rattle.rule.proofs.Value.{Clear}

-- one more job that starts at the same slot, or is none of the span
pub late_more : (P : Problem) (k s e : ℕ) (p q : ℕ → ℕ) → (In P s e k → p k ≡ q k) → LateInSpan P k s e p q
    → LateInSpan P (suc k) s e p q
late_more P k s e p q top (same f) = same (λ i l h. on_eq i k (λ w. rw w (top (rw w at h))) (λ w. f i (omega arith) h))
late_more P k s e p q top (later i l h c f) =
    later i (omega arith) h c
    (λ j u v g. on_eq j k (λ w. rw w (top (rw w at g))) (λ w. f j u (omega arith) g))

-- at the highest job it is no earlier
pub late_top : (P : Problem) (k s e : ℕ) (p q : ℕ → ℕ) → In P s e k → LateInSpan P (suc k) s e p q → q k ≤ p k
late_top P k s e p q h (same f) = omega (arith, f k (omega arith) h)
late_top P k s e p q h (later i l g c f) =
    on_eq i k (λ w. omega (arith, ap p w, ap q w)) (λ w. omega (arith, f k (omega arith) (omega arith) h))

-- later at the highest job is later
pub late_at_top : (P : Problem) (k s e : ℕ) (p q : ℕ → ℕ) → In P s e k → q k < p k → LateInSpan P (suc k) s e p q
late_at_top P k s e p q h c = later k (omega arith) h c (λ j u v. absurd (omega arith))

-- of a span split at t: p is `left` on the jobs released before t and `right` on those released after it, and none is released at t
pub record Parts (P : Problem) (k s t e : ℕ) (p left right : ℕ → ℕ) : Type 0 where
  pub start : s ≤ t
  pub end : t < e
  pub clear : Clear P k t
  pub before : (i : ℕ) → i < k → P.release i < t → p i ≡ left i
  pub after : (i : ℕ) → i < k → t < P.release i → p i ≡ right i

module _ (P : Problem) (k s t e : ℕ) (p left right q : ℕ → ℕ) (parts : Parts P k s t e p left right) where
  -- from job m on both sides start as q does, so the whole does
  same_from : (m : ℕ) → ((j : ℕ) → m ≤ j → j < k → In P s t j → left j ≡ q j)
      → ((j : ℕ) → m ≤ j → j < k → In P (suc t) e j → right j ≡ q j)
      → (j : ℕ) → m ≤ j → j < k → In P s e j → p j ≡ q j
  same_from m f g j u l h =
      give (λ (w : P.release j ≡ t). parts.clear j l w)
      (λ (n : P.release j ≡ t → ⊥).
      on_le t (P.release j)
      (λ c. parts.after j l (omega arith) ∙ g j u l (omega arith))
      (λ c. parts.before j l c ∙ f j u l (omega arith)))

  -- the higher of the two jobs where the sides differ from q decides
  pub late_both : LateInSpan P k s t left q → LateInSpan P k (suc t) e right q → LateInSpan P k s e p q
  late_both (same f) (same g) = same (λ i l h. same_from 0 (λ j u. f j) (λ j u. g j) i (omega arith) l h)
  late_both (later i l h c f) (same g) =
      later i l (omega arith) (omega (arith, parts.before i l (omega arith))) (same_from (suc i) f (λ j u. g j))
  late_both (same f) (later j u a d g) =
      later j u (omega arith) (omega (arith, parts.after j u (omega arith))) (same_from (suc j) (λ i l. f i) g)
  late_both (later i l h c f) (later j u a d g) =
      on_le i j
      (λ b.
      later j u (omega arith) (omega (arith, parts.after j u (omega arith)))
      (same_from (suc j) (λ m x. f m (omega arith)) g))
      (λ b.
      later i l (omega arith) (omega (arith, parts.before i l (omega arith)))
      (same_from (suc i) f (λ m x. g m (omega arith))))
