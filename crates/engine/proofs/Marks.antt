-- The laws of marks: what one job more lowers, and that the marks are those of a problem. Assumes nothing.
use Prim.Native.Nat.{ℕ, ◌+◌, ◌≤◌, ◌<◌}
use mathlib.Core.Path.{◌≡◌, refl, sym, ◌∙◌}
use mathlib.Core.List.{List}
use native.Mathlib.Omega.{arith}
use lib.ListN.{length}
use Rattle.day.specs.Windows.{at}
use mathlib.Core.Bool.{true}
use Rattle.day.proofs.Cases.{on_eq, on_le, give}
use Rattle.rule.specs.Span.{Problem, clear}
use Rattle.rule.proofs.Value.{clear_true, clear_intro}
use Rattle.engine.specs.Marks.{MarkedBy}
use Rattle.engine.specs.steps.MarkLowered.{MarkLowered}

module _ (rel : List ℕ) (n : ℕ) (old : List ℕ) where
  -- the release of job k lowers one
  module _ (k : ℕ) (some : k < n) (before after : List ℕ) (m : MarkedBy rel (k + 1) n old before)
      (w : MarkLowered (at rel k) (k + 1) before after) where
    counts_here : (j : ℕ) → j < n → at rel k < length old → j < at after (at rel k)
        → (0 < at old (at rel k)) × ((i : ℕ) → k ≤ i → i < j → at rel i ≡ at rel k → ⊥)
    counts_here j h l u =
        on_eq (at before (at rel k)) 0 (λ z. absurd (omega (arith, (w.inside (at rel k) refl).1 z)))
        (λ z. (
          (m.counts 0 (at rel k) (omega arith) l (omega arith)).0,
          λ i b c q. omega (arith, (w.inside (at rel k) refl).0 (omega arith)),
        ))

    counted_here : (j : ℕ) → at rel k < length old → 0 < at old (at rel k)
        → ((i : ℕ) → k ≤ i → i < j → at rel i ≡ at rel k → ⊥) → j < at after (at rel k)
    counted_here j l o f =
        give (m.counted 0 (at rel k) (omega arith) l o (λ i b c. absurd (omega arith)))
        (λ u.
        on_le j k (λ c. omega (arith, (w.inside (at rel k) refl).0 u)) (λ c. absurd (f k (omega arith) c refl)))

    pub marked_more : MarkedBy rel k n old after
    marked_more = record {
      long = w.long ∙ m.long;
      counts = λ j t h l u. on_eq t (at rel k)
          (λ q. rw q (counts_here j h (rw q at l) (rw q at u)))
          (λ q. give (m.counts j t h l (omega (arith, w.outside t (λ x e f. q (f ∙ e)))))
          (λ c. (c.0, λ i b d r. on_eq i k (λ z. q (sym (rw z at r))) (λ z. c.1 i (omega arith) d r))));
      counted = λ j t h l o f. on_eq t (at rel k)
          (λ q. rw q (counted_here j (rw q at l) (rw q at o) (rw q at f)))
          (λ q. omega (arith, w.outside t (λ x e f. q (f ∙ e)), m.counted j t h l o (λ i b. f i (omega arith))));
    }

-- the marks are those of a problem with these releases whose allowed points were marked at first
module _ (P : Problem) (rel old new : List ℕ) (n : ℕ) (m : MarkedBy rel 0 n old new)
    (release : (k : ℕ) → k < n → P.release k ≡ at rel k) where
  pub marks_count : ((t : ℕ) → t < length old → 0 < at old t → P.allowed t ≡ true) → (k t : ℕ) → k < n → t < length old
      → k < at new t → (P.allowed t ≡ true) × (clear P k t ≡ true)
  marks_count allowed k t h l u =
      give (m.counts k t h l u)
      (λ w. (
        allowed t l w.0,
        clear_intro P k t (λ i b q. w.1 i (omega arith) b (sym (release i (omega arith)) ∙ q)),
      ))

  pub marks_counted : ((t : ℕ) → t < length old → P.allowed t ≡ true → 0 < at old t) → (k t : ℕ) → k < n → t < length old
      → P.allowed t ≡ true → clear P k t ≡ true → k < at new t
  marks_counted marked k t h l a c =
      m.counted k t h l (marked t l a) (λ i z b q. clear_true P k t c i b (release i (omega arith) ∙ q))
