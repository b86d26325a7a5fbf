-- The laws of the search for a split from the evening side: the first place with the best sum is the latest. Assumes nothing.
use Prim.Native.Nat.{ℕ, ◌+◌, ◌-◌, ◌≤◌, ◌<◌}
use mathlib.Core.Path.{◌≡◌, sym, ◌∙◌}
use mathlib.Core.List.{List}
use native.Mathlib.Numerals.{add-one}
use native.Mathlib.Omega.{arith}
use Rattle.day.specs.Windows.{at}
use Rattle.day.proofs.Cases.{on_eq, on_le}
use Rattle.rule.specs.Span.{Problem, value, sides, split}
use Rattle.rule.specs.SpanPlan.{In}
use Rattle.rule.proofs.Value.{MaySplit, sides_is, LatestBest, split_found}
use Rattle.engine.specs.steps.OneMore.{OneMore, layout_for, one_job}
use Rattle.engine.proofs.OneJob.{splits_marked, price_read}
use Rattle.readback.specs.declared.Split.{Split}
use Rattle.readback.specs.steps.SplitFound.{SidesRead, SplitFound}

-- no place after t at which the job may split the span has the sum v
abbrev pub NoLater : Problem → ℕ → ℕ → ℕ → ℕ → Type 0
NoLater P s e v t = (u : ℕ) → t < u → u < e → MaySplit P 0 u → sides P 0 s e u ≡ v → ⊥

module _ (P : Problem) (s e v : ℕ) where
  -- a place without the sum is passed
  passed : (t : ℕ) → (MaySplit P 0 t → sides P 0 s e t ≡ v → ⊥) → NoLater P s e v t → NoLater P s e v (t - 1)
  passed t n w u h l m q = on_eq u t (λ z. n (rw z at m) (rw z at q)) (λ z. w u (omega arith) l m q)

  module _ (inside : In P s e 0) (known : v ≡ value P 1 s e) (some : v < P.none) (t : ℕ) (later : NoLater P s e v t) where
    best : LatestBest P 0 s e (split P 0 s e)
    best = split_found P 0 s e inside (omega (arith, known, some))

    no_later : split P 0 s e ≤ t
    no_later =
        on_le (split P 0 s e) t (λ h. h) (λ h. absurd (later (split P 0 s e) h best.below best.may (best.best ∙ sym known)))

    -- the first place that has it is where the job splits
    first_splits : MaySplit P 0 t → t < e → sides P 0 s e t ≡ v → t ≡ split P 0 s e
    first_splits m l q = omega (arith, no_later, best.late t m l (q ∙ known))

    -- and so is the release, if every later place is passed
    release_splits : t ≡ P.release 0 → t ≡ split P 0 s e
    release_splits q = omega (arith, no_later, best.may.low)

-- one job more over the level below: what is read of a split of the span from s to e
module _ (J : OneMore) (table : List ℕ) (s e v : ℕ) where
  module _ (r : Split) (read : SidesRead (layout_for J) table J.job s e r) where
    sum_read : sides (one_job J table) 0 s e r.point ≡ r.left + r.right
    sum_read =
        omega (
          arith,
          read.left,
          rw add-one at read.right,
          sides_is (one_job J table) 0 s e r.point,
          price_read J table s r.point,
          rw add-one at (price_read J table (r.point + 1) e),
        )

    -- a place with another sum is passed
    pub other_passed : (r.left + r.right ≡ v → ⊥) → NoLater (one_job J table) s e v r.point → NoLater (one_job J table) s e v (r.point - 1)
    other_passed n = passed (one_job J table) s e v r.point (λ m q. n (sym sum_read ∙ q))

    module _ (inside : (s ≤ J.release) × (J.release < e)) (later : NoLater (one_job J table) s e v r.point) where
      -- the first place with the sum is found
      pub first_found : J.release ≤ r.point → r.point < J.deadline → r.point < e → J.job < at J.marks r.point
          → r.left + r.right ≡ v → SplitFound J table s e v r
      first_found l u below m q = record {
        released = l;
        inside = below;
        sides = read;
        best = λ known some. first_splits (one_job J table) s e v inside known some r.point later (splits_marked J table r.point l u m)
            below (sum_read ∙ q);
      }

      -- or the release is left
      pub release_found : r.point ≡ J.release → SplitFound J table s e v r
      release_found q = record {
        released = omega arith;
        inside = omega (arith, inside);
        sides = read;
        best = λ known some. release_splits (one_job J table) s e v inside known some r.point later q;
      }
