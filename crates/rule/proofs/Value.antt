-- The laws of the recursion and of the plan read back, one for each clause, and what they depend on. Assumes nothing.
use Prim.Native.Nat.{ℕ, zero, suc, ◌+◌, ◌≤◌, ◌<◌}
use mathlib.Core.Path.{◌≡◌, refl}
use mathlib.Core.Bool.{true, false, ◌&&◌}
use native.Mathlib.Omega.{arith}
use lib.Dec.{ltb, leb, eqb}
use borrow.Author.Tests.{ltb-true, leb-true, eqb-true, eqb-false, lt-ltb, le-ltb, le-leb, eq-eqb, ne_eqb}
use Rattle.day.proofs.Cases.{on, on_eq, give, not_both, and_left, and_right, and_intro}
use Rattle.rule.specs.Extreme.{least, latest}
use Rattle.rule.specs.Span.{Problem, in_span, clear, may_split, value_by, value, sides, best_split, split, read_back}
use Rattle.rule.specs.SpanPlan.{In}
use Rattle.rule.proofs.Extreme.{least_le, least_found, Latest, latest_is}

pub in_span_true : (P : Problem) (s e k : ℕ) → in_span P s e k ≡ true → In P s e k
unfolding in_span
in_span_true P s e k h = (
  leb-true s (P.release k) (and_left (leb s (P.release k)) (ltb (P.release k) e) h),
  ltb-true (P.release k) e (and_right (leb s (P.release k)) (ltb (P.release k) e) h),
)

pub in_span_intro : (P : Problem) (s e k : ℕ) → In P s e k → in_span P s e k ≡ true
unfolding in_span
in_span_intro P s e k h = rw (le-leb s (P.release k) h.0, lt-ltb (P.release k) e h.1)

pub in_span_false : (P : Problem) (s e k : ℕ) → (In P s e k → ⊥) → in_span P s e k ≡ false
in_span_false P s e k n = on (in_span P s e k) (λ h. absurd (n (in_span_true P s e k h))) (λ h. h)

pub on_in_span : {C : Type 0} (P : Problem) (s e k : ℕ) → (In P s e k → C) → ((In P s e k → ⊥) → C) → C
on_in_span P s e k f g =
    on (in_span P s e k) (λ h. f (in_span_true P s e k h)) (λ h. g (λ w. not_both (in_span_intro P s e k w) h))

-- no job below k is released at t
abbrev pub Clear : Problem → ℕ → ℕ → Type 0
Clear P k t = (i : ℕ) → i < k → P.release i ≡ t → ⊥

pub clear_true : (P : Problem) (k t : ℕ) → clear P k t ≡ true → Clear P k t
unfolding clear
clear_true P zero t h i l q = omega arith
clear_true P (suc k) t h i l q =
    on (eqb (P.release k) t)
    (λ e. not_both (rw e at h) refl)
    (λ e.
    on_eq i k (λ w. eqb-false (P.release k) t e (rw w at q)) (λ w. clear_true P k t (rw e at h) i (omega arith) q))

pub clear_intro : (P : Problem) (k t : ℕ) → Clear P k t → clear P k t ≡ true
unfolding clear
clear_intro P zero t f = refl
clear_intro P (suc k) t f =
    rw (ne_eqb (P.release k) t (f k (omega arith))) (clear_intro P k t (λ i l. f i (omega arith)))

-- job k may split a span at t
pub record MaySplit (P : Problem) (k t : ℕ) : Type 0 where
  pub allowed : P.allowed t ≡ true
  pub low : P.release k ≤ t
  pub high : t < P.deadline k
  pub clear : Clear P k t

pub may_split_true : (P : Problem) (k t : ℕ) → may_split P k t ≡ true → MaySplit P k t
unfolding may_split
may_split_true P k t h =
    give (and_right (P.allowed t) (leb (P.release k) t && (ltb t (P.deadline k) && clear P k t)) h)
    (λ released.
    give (and_right (leb (P.release k) t) (ltb t (P.deadline k) && clear P k t) released)
    (λ due.
    record {
      allowed = and_left (P.allowed t) (leb (P.release k) t && (ltb t (P.deadline k) && clear P k t)) h;
      low = leb-true (P.release k) t (and_left (leb (P.release k) t) (ltb t (P.deadline k) && clear P k t) released);
      high = ltb-true t (P.deadline k) (and_left (ltb t (P.deadline k)) (clear P k t) due);
      clear = clear_true P k t (and_right (ltb t (P.deadline k)) (clear P k t) due);
    }))

pub may_split_intro : (P : Problem) (k t : ℕ) → MaySplit P k t → may_split P k t ≡ true
unfolding may_split
may_split_intro P k t m =
    rw (m.allowed, le-leb (P.release k) t m.low, lt-ltb t (P.deadline k) m.high) (clear_intro P k t m.clear)

pub may_split_false : (P : Problem) (k t : ℕ) → (MaySplit P k t → ⊥) → may_split P k t ≡ false
may_split_false P k t n = on (may_split P k t) (λ h. absurd (n (may_split_true P k t h))) (λ h. h)

pub value_zero : (P : Problem) (s e : ℕ) → value P 0 s e ≡ P.price s e
unfolding value value_by
value_zero P s e = refl

pub value_in : (P : Problem) (k s e : ℕ) → In P s e k → value P (suc k) s e ≡ least (may_split P k) (sides P k s e) P.none e
unfolding value value_by sides
value_in P k s e h = rw (in_span_intro P s e k h)

pub value_out : (P : Problem) (k s e : ℕ) → (In P s e k → ⊥) → value P (suc k) s e ≡ value P k s e
unfolding value value_by
value_out P k s e n = rw (in_span_false P s e k n)

pub sides_is : (P : Problem) (k s e t : ℕ) → sides P k s e t ≡ value P k s t + value P k (suc t) e
unfolding sides
sides_is P k s e t = refl

-- no split is better than the value
pub value_le_sides : (P : Problem) (k s e t : ℕ) → In P s e k → MaySplit P k t → t < e → value P (suc k) s e ≤ sides P k s e t
value_le_sides P k s e t h m l =
    omega (arith, value_in P k s e h, least_le (may_split P k) (sides P k s e) P.none e t l (may_split_intro P k t m))

pub split_is : (P : Problem) (k s e : ℕ) → split P k s e ≡ latest (best_split P k s e) e
unfolding split
split_is P k s e = refl

pub best_split_is : (P : Problem) (k s e t : ℕ)
    → best_split P k s e t ≡ (may_split P k t && eqb (sides P k s e t) (value P (suc k) s e))
unfolding best_split
best_split_is P k s e t = refl

-- t is where job k splits the span
pub record LatestBest (P : Problem) (k s e t : ℕ) : Type 0 where
  pub may : MaySplit P k t
  pub below : t < e
  pub best : sides P k s e t ≡ value P (suc k) s e
  pub late : (u : ℕ) → MaySplit P k u → u < e → sides P k s e u ≡ value P (suc k) s e → u ≤ t

split_late : (P : Problem) (k s e u : ℕ) → MaySplit P k u → u < e → sides P k s e u ≡ value P (suc k) s e
    → Latest (best_split P k s e) e u (split P k s e)
unfolding split best_split
split_late P k s e u m l h =
    latest_is (best_split P k s e) e u l
    (and_intro (may_split P k u) (eqb (sides P k s e u) (value P (suc k) s e)) (may_split_intro P k u m)
    (eq-eqb (sides P k s e u) (value P (suc k) s e) h))

pub split_found : (P : Problem) (k s e : ℕ) → In P s e k → value P (suc k) s e < P.none → LatestBest P k s e (split P k s e)
unfolding best_split
split_found P k s e h l =
    give (value_in P k s e h)
    (λ v.
    give (least_found (may_split P k) (sides P k s e) P.none e (omega arith))
    (λ a.
    give (split_late P k s e a.at (may_split_true P k a.at a.passes) a.below (omega arith))
    (λ w.
    record {
      may = may_split_true P k (split P k s e)
          (and_left (may_split P k (split P k s e)) (eqb (sides P k s e (split P k s e)) (value P (suc k) s e)) w.passes);
      below = w.below;
      best = eqb-true (sides P k s e (split P k s e)) (value P (suc k) s e)
          (and_right (may_split P k (split P k s e)) (eqb (sides P k s e (split P k s e)) (value P (suc k) s e)) w.passes);
      late = λ u m b q. (split_late P k s e u m b q).late;
    })))

pub read_back_out : (P : Problem) (k s e i : ℕ) → (In P s e k → ⊥) → read_back P (suc k) s e i ≡ read_back P k s e i
unfolding read_back
read_back_out P k s e i n = rw (in_span_false P s e k n)

pub read_back_last : (P : Problem) (k s e : ℕ) → In P s e k → read_back P (suc k) s e k ≡ split P k s e
unfolding read_back
read_back_last P k s e h = rw (in_span_intro P s e k h, eq-eqb k k refl)

pub read_back_left : (P : Problem) (k s e i : ℕ) → In P s e k → i < k → P.release i < split P k s e
    → read_back P (suc k) s e i ≡ read_back P k s (split P k s e) i
unfolding read_back
read_back_left P k s e i h l c =
    rw (in_span_intro P s e k h, ne_eqb i k (omega arith), lt-ltb (P.release i) (split P k s e) c)

pub read_back_right : (P : Problem) (k s e i : ℕ) → In P s e k → i < k → split P k s e ≤ P.release i
    → read_back P (suc k) s e i ≡ read_back P k (suc (split P k s e)) e i
unfolding read_back
read_back_right P k s e i h l c =
    rw (in_span_intro P s e k h, ne_eqb i k (omega arith), le-ltb (P.release i) (split P k s e) c)
