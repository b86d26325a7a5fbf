-- The laws of one job more over the level below: where it may split, that its values are small, and that they are the rule's. Assumes nothing.
use Prim.Native.Nat.{ℕ, suc, ◌≤◌, ◌<◌}
use mathlib.Core.Path.{◌≡◌, refl, sym, ◌∙◌}
use mathlib.Core.List.{List}
use native.Mathlib.Omega.{arith}
use borrow.Author.Tests.{ltb-true, lt-ltb}
use Rattle.day.specs.Windows.{at}
use Rattle.day.proofs.Cases.{give}
use Rattle.rule.specs.Span.{Problem, may_split, value, sides}
use Rattle.rule.proofs.Extreme.{least_none_bound}
use Rattle.rule.proofs.Value.{on_in_span, clear_true, clear_intro, MaySplit, value_zero, value_in, value_out}
use Rattle.rule.proofs.Alike.{Alike, value_alike}
use Rattle.engine.specs.Places.{SpanIn, place}
use Rattle.engine.specs.Lent.{Lent, layout_of, Posed}
use Rattle.engine.specs.Filled.{ValuesHeld, Small}
use Rattle.engine.specs.steps.OneMore.{OneMore, more_of, layout_for, one_job, value_with}

module _ (J : OneMore) (table : List ℕ) where
  -- the job may split at a point of its window that is marked for it, and at no other
  pub splits_marked : (t : ℕ) → J.release ≤ t → t < J.deadline → J.job < at J.marks t → MaySplit (one_job J table) 0 t
  splits_marked t l u m = record {
    allowed = lt-ltb J.job (at J.marks t) m;
    low = l;
    high = u;
    clear = λ i h. absurd (omega arith);
  }

  pub splits_unmarked : (t : ℕ) → at J.marks t ≤ J.job → MaySplit (one_job J table) 0 t → ⊥
  splits_unmarked t m s = omega (arith, ltb-true J.job (at J.marks t) s.allowed)

  -- the level below has its prices
  pub price_read : (s e : ℕ) → at table (place (layout_for J) J.job s e) ≡ value (one_job J table) 0 s e
  price_read s e = sym (value_zero (one_job J table) s e)

  -- its values are small
  pub value_with_small : Small (layout_for J) J.shape.none J.job table → (s e : ℕ) → SpanIn (layout_for J) s e → value_with J table s e ≤ J.shape.none
  value_with_small small s e v =
      on_in_span (one_job J table) s e 0
      (λ inside. omega (
        arith,
        value_in (one_job J table) 0 s e inside,
        least_none_bound (may_split (one_job J table) 0) (sides (one_job J table) 0 s e) J.shape.none e,
      ))
      (λ out. omega (arith, value_out (one_job J table) 0 s e out, price_read s e, small s e v))

  -- another table with the same level below has the same
  pub value_with_same : (other : List ℕ)
      → ((s e : ℕ) → SpanIn (layout_for J) s e → at table (place (layout_for J) J.job s e) ≡ at other (place (layout_for J) J.job s e))
      → (s e : ℕ) → SpanIn (layout_for J) s e → value_with J table s e ≡ value_with J other s e
  value_with_same other same s e v = value_alike alike s e v.1 v.0
    where
      alike : Alike J.shape.points (one_job J table) 0 (one_job J other) 0
      alike = record {
        none = refl;
        release = refl;
        may = λ t h m. record { allowed = m.allowed; low = m.low; high = m.high; clear = λ i l. absurd (omega arith) };
        may_too = λ t h m. record { allowed = m.allowed; low = m.low; high = m.high; clear = λ i l. absurd (omega arith) };
        values = λ a x h l. sym (price_read a x) ∙ same a x (h, l) ∙ sym (value_zero (one_job J other) a x);
      }

-- over the rule's values, job k is the rule's
module _ (G : Lent) (table : List ℕ) (k : ℕ) {P : Problem} {n : ℕ} (posed : Posed P G n) (below : k < n) (level : ValuesHeld P (layout_of G) k table) where
  marked_may : (t : ℕ) → t < G.shape.points → MaySplit (one_job (more_of G k) table) 0 t → MaySplit P k t
  marked_may t h m =
      give (posed.marked k t below h (ltb-true k (at G.marks t) m.allowed))
      (λ w. record {
        allowed = w.0;
        low = omega (arith, m.low, posed.release k below);
        high = omega (arith, m.high, posed.deadline k below);
        clear = clear_true P k t w.1;
      })

  may_marked : (t : ℕ) → t < G.shape.points → MaySplit P k t → MaySplit (one_job (more_of G k) table) 0 t
  may_marked t h m =
      splits_marked (more_of G k) table t (omega (arith, m.low, posed.release k below)) (omega (arith, m.high, posed.deadline k below))
      (posed.unmarked k t below h m.allowed (clear_intro P k t m.clear))

  pub alike_posed : Alike G.shape.points (one_job (more_of G k) table) 0 P k
  alike_posed = record {
    none = sym posed.none;
    release = sym (posed.release k below);
    may = marked_may;
    may_too = may_marked;
    values = λ s e h l. sym (price_read (more_of G k) table s e) ∙ level s e (h, l);
  }

  pub value_with_posed : (s e : ℕ) → SpanIn (layout_of G) s e → value_with (more_of G k) table s e ≡ value P (suc k) s e
  value_with_posed s e v = value_alike alike_posed s e v.1 v.0
