-- The laws of a band of sums: at each e it holds the least sum of the two sides over the splits before t. Assumes nothing.
use Prim.Native.Nat.{ℕ, ◌+◌, ◌≤◌, ◌<◌, min}
use mathlib.Core.Path.{◌≡◌, refl, sym, ap, ◌∙◌}
use mathlib.Core.List.{List}
use native.Mathlib.Numerals.{add-one}
use native.Mathlib.Omega.{arith}
use Rattle.day.specs.Windows.{at}
use Rattle.day.specs.Changed.{itself}
use Rattle.day.proofs.Cases.{on_le}
use Rattle.rule.specs.Extreme.{least}
use Rattle.rule.specs.Span.{Problem, may_split, value, sides}
use Rattle.rule.proofs.Extreme.{least_zero, least_pass, least_skip, least_none_pass, least_none_bound}
use Rattle.rule.proofs.Value.{MaySplit, may_split_intro, may_split_false, value_in, sides_is}
use Rattle.engine.specs.Places.{band, place}
use Rattle.engine.specs.steps.Bands.{HoldsAlong, lowered}
use Rattle.engine.specs.steps.OneMore.{OneMore, layout_for, one_job, Fillable}
use Rattle.engine.proofs.Along.{holds_as}
use Rattle.engine.proofs.OneJob.{splits_marked, splits_unmarked, price_read}

-- the least sum of the two sides of a span from s to e, over the splits of the job before t
abbrev sum_to : Problem → ℕ → ℕ → ℕ → ℕ
sum_to P s t e = least (may_split P 0) (sides P 0 s e) P.none (min t e)

-- new is old, save that after the release of the job it holds these sums
abbrev pub Sums : Problem → ℕ → ℕ → ℕ → List ℕ → List ℕ → Type 0
Sums P points s t = HoldsAlong itself (P.release 0 + 1) points (sum_to P s t)

module _ (P : Problem) (points s : ℕ) where
  -- before its release the job splits nowhere
  pub sums_none : (sums : List ℕ) → ((e : ℕ) → e < points → at sums e ≡ P.none) → Sums P points s (P.release 0) sums sums
  sums_none sums h = record {
    long = refl;
    inside = λ e b.
        h e b.1
        ∙ sym (least_none_pass (may_split P 0) (sides P 0 s e) P.none 0 (min (P.release 0) e) (omega arith)
        (λ t z u. may_split_false P 0 t (λ m. omega (arith, m.low)))
        ∙ least_zero (may_split P 0) (sides P 0 s e) P.none);
    outside = λ j n. refl;
  }

  -- the bound on t doesn't matter past e
  sum_past : (e t u : ℕ) → e ≤ t → e ≤ u → sum_to P s t e ≡ sum_to P s u e
  sum_past e t u h l = ap (least (may_split P 0) (sides P 0 s e) P.none) (omega arith)

  -- before e it does
  sum_here : (e t : ℕ) → t ≤ e → sum_to P s t e ≡ least (may_split P 0) (sides P 0 s e) P.none t
  sum_here e t h = ap (least (may_split P 0) (sides P 0 s e) P.none) (omega arith)

  sums_skip : (t : ℕ) (old new : List ℕ) → (MaySplit P 0 t → ⊥) → Sums P points s t old new → Sums P points s (t + 1) old new
  sums_skip t old new n =
      holds_as
      (λ e b.
      on_le e t (λ h. sum_past e t (t + 1) h (omega arith))
      (λ h.
      sum_here e t (omega arith)
      ∙ sym (sum_here e (t + 1) (omega arith)
      ∙ least_skip (may_split P 0) (sides P 0 s e) P.none t (may_split_false P 0 t n))))

  sums_lower : (t band base : ℕ) (table old between new : List ℕ) → MaySplit P 0 t → base ≡ value P 0 s t
      → ((e : ℕ) → t < e → e < points → at table (band + e) ≡ value P 0 (t + 1) e) → Sums P points s t old between
      → HoldsAlong itself (t + 1) points (lowered between table band base) between new → Sums P points s (t + 1) old new
  sums_lower t band base table old between new m b right w v = record {
    long = v.long ∙ w.long;
    inside = λ e i. on_le e t
        (λ h. v.outside e (λ x y q. omega arith) ∙ w.inside e i ∙ sum_past e t (t + 1) h (omega arith))
        (λ h. omega (
          arith,
          v.inside e (omega arith, i.1),
          w.inside e i,
          sum_here e t (omega arith),
          sum_here e (t + 1) (omega arith),
          least_pass (may_split P 0) (sides P 0 s e) P.none t (may_split_intro P 0 t m),
          sides_is P 0 s e t,
          rw add-one at (right e h i.1),
        ));
    outside = λ j n. v.outside j (λ e i. n e (omega (arith, m.low), i.1)) ∙ w.outside j n;
  }

  -- at its deadline the sums are the values with it
  pub sums_value : (old new : List ℕ) → s ≤ P.release 0 → Sums P points s (P.deadline 0) old new
      → HoldsAlong itself (P.release 0 + 1) points (value P 1 s) old new
  sums_value old new h =
      holds_as
      (λ e b.
      sym (least_none_pass (may_split P 0) (sides P 0 s e) P.none (min (P.deadline 0) e) e (omega arith)
      (λ t z u. may_split_false P 0 t (λ m. omega (arith, m.high))))
      ∙ sym (value_in P 0 s e (h, omega arith)))

-- the sums of the job from s, one point of its window further
module _ {J : OneMore} {table : List ℕ} (f : Fillable J table) (s t : ℕ) (old sums : List ℕ)
    (within : t < J.deadline) (w : Sums (one_job J table) J.shape.points s t old sums) where
  -- the job can't stand where its mark doesn't let it
  pub unmarked_skipped : at J.marks t ≤ J.job → Sums (one_job J table) J.shape.points s (t + 1) old sums
  unmarked_skipped m =
      sums_skip (one_job J table) J.shape.points s t old sums (splits_unmarked J table t m) w

  module _ (from : s ≤ t) (released : J.release ≤ t) where
    before_end : t + 1 < J.shape.points
    before_end = omega (arith, f.before_end)

    -- numbers of 15 bits are added and compared
    pub split_fits : (e : ℕ) → t + 1 ≤ e → e < J.shape.points
        → (at table (place (layout_for J) J.job s t) + at table (place (layout_for J) J.job (t + 1) e) < 32768) × (at sums e < 32768)
    split_fits e h l = (
      omega (
        arith,
        f.small_none,
        f.small s t (from, omega arith),
        f.small (t + 1) e (h, l),
      ),
      omega (
        arith,
        f.small_none,
        w.inside e (omega arith, l),
        least_none_bound (may_split (one_job J table) 0) (sides (one_job J table) 0 s e) J.shape.none (min t e),
      ),
    )

    pub split_lowers : (new : List ℕ) → J.job < at J.marks t
        → HoldsAlong itself (t + 1) J.shape.points
        (lowered sums table (band (layout_for J) J.job (t + 1)) (at table (place (layout_for J) J.job s t))) sums new
        → Sums (one_job J table) J.shape.points s (t + 1) old new
    split_lowers new m v =
        sums_lower (one_job J table) J.shape.points s t (band (layout_for J) J.job (t + 1)) (at table (place (layout_for J) J.job s t)) table old sums new
        (splits_marked J table t released within m) (price_read J table s t) (λ e h l. price_read J table (t + 1) e) w v
