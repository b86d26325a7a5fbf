-- Two laws determine the price of a span: an empty span costs its price, and a full slot splits a span. Assumes nothing.
use Prim.Native.Nat.{ℕ, zero, suc, ◌+◌, ◌-◌, ◌≤◌, ◌<◌}
use mathlib.Core.Path.{◌≡◌, refl, sym, ◌∙◌, ap}
use mathlib.Core.Bool.{Bool, true, false}
use native.Mathlib.Omega.{arith}
use mathlib.Core.Logic.{⊎_elim}
use Rattle.day.specs.Span.{walk, span}
use Rattle.day.proofs.Cases.{on, give, find}

module _ (price : ℕ → ℕ → ℕ) where
  pub walk_zero : (full : ℕ → Bool) (a x : ℕ) → walk price full a x zero ≡ price a x
  unfolding walk
  walk_zero full a x = refl

  pub walk_full : (full : ℕ → Bool) (a x m : ℕ) → full x ≡ true
      → walk price full a x (suc m) ≡ price a x + walk price full (suc x) (suc x) m
  unfolding walk
  walk_full full a x m e = rw e

  pub walk_empty : (full : ℕ → Bool) (a x m : ℕ) → full x ≡ false → walk price full a x (suc m) ≡ walk price full a (suc x) m
  unfolding walk
  walk_empty full a x m e = rw e

  walk_cong : (full other : ℕ → Bool) (m a x : ℕ) → ((t : ℕ) → x ≤ t → t < x + m → full t ≡ other t)
      → walk price full a x m ≡ walk price other a x m
  walk_cong full other zero a x f = walk_zero full a x ∙ sym (walk_zero other a x)
  walk_cong full other (suc m) a x f =
      give (f x (omega arith) (omega arith))
      (λ w.
      on (full x)
      (λ e.
      omega (
        arith,
        walk_full full a x m e,
        walk_full other a x m (sym w ∙ e),
        walk_cong full other m (suc x) (suc x) (λ t h l. f t (omega arith) (omega arith)),
      ))
      (λ e.
      omega (
        arith,
        walk_empty full a x m e,
        walk_empty other a x m (sym w ∙ e),
        walk_cong full other m a (suc x) (λ t h l. f t (omega arith) (omega arith)),
      )))

  walk_split : (full : ℕ → Bool) (m N a x t n : ℕ) → t ≡ x + m → N ≡ m + suc n → full t ≡ true
      → walk price full a x N ≡ walk price full a x m + walk price full (suc t) (suc t) n
  walk_split full zero zero a x t n p q h = absurd (omega arith)
  walk_split full zero (suc N) a x t n p q h =
      let tx : t ≡ x = omega arith in
      let nN : n ≡ N = omega arith in
      rw (tx, nN) (omega (arith, walk_full full a x N (rw tx at h), walk_zero full a x))
  walk_split full (suc m) zero a x t n p q h = absurd (omega arith)
  walk_split full (suc m) (suc N) a x t n p q h =
      on (full x)
      (λ e.
      omega (
        arith,
        walk_full full a x N e,
        walk_full full a x m e,
        walk_split full m N (suc x) (suc x) t n (omega arith) (omega arith) h,
      ))
      (λ e.
      omega (
        arith,
        walk_empty full a x N e,
        walk_empty full a x m e,
        walk_split full m N a (suc x) t n (omega arith) (omega arith) h,
      ))

  walk_none : (full : ℕ → Bool) (m a x : ℕ) → ((t : ℕ) → x ≤ t → t < x + m → full t ≡ false) → walk price full a x m ≡ price a (x + m)
  walk_none full zero a x f = walk_zero full a x ∙ ap (price a) (omega arith)
  walk_none full (suc m) a x f =
      walk_empty full a x m (f x (omega arith) (omega arith))
      ∙ walk_none full m a (suc x) (λ t h l. f t (omega arith) (omega arith))
      ∙ ap (price a) (omega arith)

  -- only the slots of the span matter
  pub span_cong : (full other : ℕ → Bool) (s e : ℕ) → s ≤ e → ((t : ℕ) → s ≤ t → t < e → full t ≡ other t)
      → span price full s e ≡ span price other s e
  unfolding span
  span_cong full other s e l f = walk_cong full other (e - s) s s (λ t h u. f t h (omega arith))

  -- an empty span costs its price
  pub span_empty : (full : ℕ → Bool) (s e : ℕ) → s ≤ e → ((t : ℕ) → s ≤ t → t < e → full t ≡ false) → span price full s e ≡ price s e
  unfolding span
  span_empty full s e l f = walk_none full (e - s) s s (λ t h u. f t h (omega arith)) ∙ ap (price s) (omega arith)

  -- a full slot splits a span
  pub span_split : (full : ℕ → Bool) (s t e : ℕ) → s ≤ t → t < e → full t ≡ true
      → span price full s e ≡ span price full s t + span price full (suc t) e
  unfolding span
  span_split full s t e h l w = walk_split full (t - s) (e - s) s s t (e - suc t) (omega arith) (omega arith) w

  -- whatever satisfies the two laws up to a point is the price of the span
  pub span_unique : (full : ℕ → Bool) (value : ℕ → ℕ → ℕ) (top : ℕ)
      → ((s e : ℕ) → s ≤ e → e ≤ top → ((t : ℕ) → s ≤ t → t < e → full t ≡ false) → value s e ≡ price s e)
      → ((s t e : ℕ) → s ≤ t → t < e → e ≤ top → full t ≡ true → value s e ≡ value s t + value (suc t) e)
      → (m s e : ℕ) → s ≤ e → e ≤ s + m → e ≤ top → value s e ≡ span price full s e
  span_unique full value top empty split zero s e l h u =
      empty s e l u (λ t a b. absurd (omega arith)) ∙ sym (span_empty full s e l (λ t a b. absurd (omega arith)))
  span_unique full value top empty split (suc m) s e l h u =
      ⊎_elim
      (λ w.
      give w.1
      (λ below.
      omega (
        arith,
        split s (s + w.0) e (omega arith) (omega arith) u w.2,
        span_split full s (s + w.0) e (omega arith) (omega arith) w.2,
        span_unique full value top empty split m s (s + w.0) (omega arith) (omega arith) (omega arith),
        span_unique full value top empty split m (suc (s + w.0)) e (omega arith) (omega arith) u,
      )))
      (λ none.
      give (λ (t : ℕ) (a : s ≤ t) (b : t < e). ap full {x = t} {y = s + (t - s)} (omega arith) ∙ none (t - s) (omega arith))
      (λ free. empty s e l u free ∙ sym (span_empty full s e l free)))
      (find (λ i. full (s + i)) (e - s))
