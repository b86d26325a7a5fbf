-- The laws of reading back: a job that isn't released in the span is passed over, one that is splits it. Assumes nothing.
use Prim.Native.Nat.{ℕ, zero, suc, ◌+◌, ◌≤◌, ◌<◌}
use mathlib.Core.Path.{◌≡◌, refl, sym, ◌∙◌}
use mathlib.Core.Logic.{◌⊎◌, inl, inr, ⊎_elim}
use mathlib.Core.List.{List}
use native.Mathlib.Numerals.{add-one}
use native.Mathlib.Omega.{arith}
use lib.ListN.{length, set}
use Rattle.day.specs.Windows.{at}
use Rattle.day.proofs.Cases.{on_eq, on_le}
use Rattle.day.proofs.Changed.{changed_one, changed_join, changed_as}
use Rattle.rule.specs.Span.{Problem, value, split, read_back}
use Rattle.rule.specs.SpanPlan.{In}
use Rattle.rule.proofs.Value.{value_out, sides_is, LatestBest, split_found, read_back_out, read_back_last, read_back_left, read_back_right}
use Rattle.rule.proofs.Alike.{split_alike}
use Rattle.engine.specs.Places.{SpanIn, place}
use Rattle.engine.specs.Lent.{Lent, layout_of}
use Rattle.engine.specs.Filled.{ValuesHeld}
use Rattle.readback.specs.StartsRead.{ReadBackAsks, PlanHeld, Among, StartsRead}
use Rattle.engine.specs.steps.OneMore.{more_of, one_job, value_with}
use Rattle.engine.proofs.Places.{places_more}
use Rattle.engine.proofs.OneJob.{alike_posed, value_with_posed}
use Rattle.engine.proofs.Level.{prepared_fewer, posed_fewer}

pub asks_fewer : {G : Lent} {table : List ℕ} {n : ℕ} → ReadBackAsks G table n → (m : ℕ) → m ≤ n → ReadBackAsks G table m
asks_fewer {G} {table} {n} r m h = record {
  prepared = prepared_fewer r.prepared m h;
  few_points = r.few_points;
  room = omega (arith, r.room, places_more (layout_of G) m n h);
  small = λ i l. r.small i (omega arith);
}

module _ (P : Problem) where
  -- a job that isn't released in the span is passed over
  back_out : (k s e : ℕ) (old new : List ℕ) → (In P s e k → ⊥) → StartsRead P k s e old new → StartsRead P (suc k) s e old new
  back_out k s e old new out =
      changed_as {These = Among P k s e} {Those = Among P (suc k) s e} (λ i w. (omega (arith, w.0), w.1, w.2))
      (λ i w. on_eq i k (λ q. absurd (out (rw (← q) (w.1, w.2)))) (λ q. (omega (arith, w.0), w.1, w.2)))
      (λ i y w q. q ∙ sym (read_back_out P k s e i out))

  -- so are all above the highest that is
  pub back_passed : (n k s e : ℕ) (old new : List ℕ) → k ≤ n → ((i : ℕ) → k ≤ i → i < n → In P s e i → ⊥) → StartsRead P k s e old new
      → StartsRead P n s e old new
  back_passed zero k s e old new h out r = let z : k ≡ zero = omega arith in rw z at r
  back_passed (suc n) k s e old new h out r =
      on_eq k (suc n) (λ q. rw q at r)
      (λ q. back_out n s e old new (out n (omega arith) (omega arith))
      (back_passed n k s e old new (omega arith) (λ i l u. out i l (omega arith)) r))

  value_passed : (n k s e : ℕ) → k ≤ n → ((i : ℕ) → k ≤ i → i < n → In P s e i → ⊥) → value P n s e ≡ value P k s e
  value_passed zero k s e h out = let z : k ≡ zero = omega arith in rw z refl
  value_passed (suc n) k s e h out =
      on_eq k (suc n) (λ q. rw q refl)
      (λ q. value_out P n s e (out n (omega arith) (omega arith))
      ∙ value_passed n k s e (omega arith) (λ i l u. out i l (omega arith)))

  -- one that is splits it at its latest best split t, and the two sides are read back
  module _ (k s e t : ℕ) (inside : In P s e k) (at_split : t ≡ split P k s e) (best : LatestBest P k s e t) where
    -- no lower job is released where job k stands
    released_after : (i : ℕ) → i < k → t ≤ P.release i → t < P.release i
    released_after i below h =
        on_eq (P.release i) t (λ q. absurd (best.may.clear i below q)) (λ q. omega arith)

    -- a lower job released on either side has the start that is read back there
    left_same : (i y : ℕ) → Among P k s t i → y ≡ read_back P k s t i → y ≡ read_back P (suc k) s e i
    left_same i y w q = q ∙ rw at_split (sym (read_back_left P k s e i inside w.0 (rw at_split at w.2)))

    right_same : (i y : ℕ) → Among P k (suc t) e i → y ≡ read_back P k (suc t) e i → y ≡ read_back P (suc k) s e i
    right_same i y w q = q ∙ rw at_split (sym (read_back_right P k s e i inside w.0 (omega (arith, w.1, at_split))))

    back_split : (old left new : List ℕ) → k < length old → StartsRead P k s t (set old k t) left → StartsRead P k (suc t) e left new
        → StartsRead P (suc k) s e old new
    back_split old left new room l r =
        changed_join {These = λ i. (i ≡ k) ⊎ Among P k s t i} {Those = Among P k (suc t) e}
        (λ i w.
        on_eq i k (λ q. inl (inl q))
        (λ q.
        on_le t (P.release i)
        (λ h. inr (omega (arith, w.0), released_after i (omega (arith, w.0)) h, w.2))
        (λ h. inl (inr (omega (arith, w.0), w.1, h)))))
        (λ i.
        ⊎_elim (λ q. rw q (omega arith, inside.0, inside.1)) (λ w. (omega (arith, w.0), w.1, omega (arith, w.2, best.below))))
        (λ i w. (omega (arith, w.0), omega (arith, w.1, best.may.low, inside), w.2))
        (λ i j w v q. ⊎_elim (λ z. omega (arith, v.0)) (λ z. omega (arith, rw q at z.2, v.1)) w)
        (changed_join {These = λ i. i ≡ k} {Those = Among P k s t} (λ i w. w) (λ i. inl) (λ i. inr) (λ i j w v q. omega (arith, v.0))
        (changed_one k t room (at_split ∙ sym (read_back_last P k s e inside))) (changed_as (λ i w. w) (λ i w. w) left_same l))
        (changed_as (λ i w. w) (λ i w. w) right_same r)

-- the highest of the lowest n jobs that are released in the span has the number k
module _ {P : Problem} {G : Lent} {table : List ℕ} {n s e : ℕ} (holds : PlanHeld P G table n s e) (k : ℕ) (below : k < n)
    (higher : (i : ℕ) → suc k ≤ i → i < n → (s ≤ at G.rel i) × (at G.rel i < e) → ⊥)
    (highest : (s ≤ at G.rel k) × (at G.rel k < e)) (v : ℕ) (held : v ≡ at table (place (layout_of G) n s e)) (t : ℕ)
    (found : v ≡ value_with (more_of G k) table s e → v < G.shape.none → t ≡ split (one_job (more_of G k) table) 0 s e) where
  inside : In P s e k
  inside = rw (holds.posed.release k below) highest

  passed : (i : ℕ) → suc k ≤ i → i < n → In P s e i → ⊥
  passed i h l w = higher i h l (rw (holds.posed.release i l) at w)

  level : ValuesHeld P (layout_of G) k table
  level = holds.levels k (omega arith)

  -- the jobs above it leave the span's value as it is
  value_held : v ≡ value P (suc k) s e
  value_held = held ∙ holds.levels n (omega arith) s e holds.span ∙ value_passed P n (suc k) s e (omega arith) passed

  some : value P (suc k) s e < P.none
  some = omega (arith, holds.some, value_passed P n (suc k) s e (omega arith) passed)

  split_found_there : t ≡ split P k s e
  split_found_there =
      found (value_held ∙ sym (value_with_posed G table k holds.posed below level s e holds.span))
      (omega (arith, value_held, some, holds.posed.none))
      ∙ split_alike (alike_posed G table k holds.posed below level) s e holds.span.1 highest

  best : LatestBest P k s e t
  best = rw split_found_there (split_found P k s e inside some)

  side : (a b : ℕ) → SpanIn (layout_of G) a b → value P k a b < P.none → PlanHeld P G table k a b
  side a b v h = record {
    posed = posed_fewer holds.posed k (omega arith);
    levels = λ i l. holds.levels i (omega arith);
    span = v;
    some = h;
  }

  left : PlanHeld P G table k s t
  left =
      side s t (omega (arith, inside, best.may.low), omega (arith, holds.span, best.below))
      (omega (arith, some, best.best, sides_is P k s e t))

  right : PlanHeld P G table k (t + 1) e
  right =
      rw add-one (side (suc t) e (best.below, holds.span.1) (omega (arith, some, best.best, sides_is P k s e t)))

  -- what is read back of the two sides is that of the span
  pub back_found : (old between new : List ℕ) → k < length old
      → (PlanHeld P G table k s t → StartsRead P k s t (set old k t) between)
      → (PlanHeld P G table k (t + 1) e → StartsRead P k (t + 1) e between new) → StartsRead P n s e old new
  back_found old between new room l r =
      back_passed P n (suc k) s e old new (omega arith) passed
      (back_split P k s e t inside split_found_there best old between new room (l left) (rw add-one at (r right)))
