-- The best plans of the two sides of the latest best split, and job k between them, make the best plan of the span. Assumes nothing.
use Prim.Native.Nat.{ℕ, suc, ◌+◌, ◌≤◌, ◌<◌}
use mathlib.Core.Path.{◌≡◌, refl, sym, ◌∙◌}
use mathlib.Core.Bool.{true}
use mathlib.Core.Logic.{⊎_elim}
use native.Mathlib.Omega.{arith}
use Rattle.day.proofs.Cases.{on_eq, on_le, give}
use Rattle.rule.specs.Span.{Problem, value, sides}
use Rattle.rule.specs.SpanPlan.{ByDeadline, In, SpanPlan, span_cost, LateInSpan, SpanBest}
use Rattle.rule.proofs.Value.{MaySplit, LatestBest, sides_is, value_le_sides}
use Rattle.rule.proofs.Occupied.{cost_agree}
use Rattle.rule.proofs.Cut.{Settled, cut_may_split, cut_left, cut_right, cost_cut}
use Rattle.rule.proofs.Swap.{settle}
use Rattle.rule.proofs.LowerBound.{no_plan_is_cheaper}
use Rattle.rule.proofs.Late.{late_more, late_top, late_at_top, Parts, late_both}

-- q falls apart at the start of job k, which is a best split, into plans that cost the values of the two sides
record BestCut (P : Problem) (k s e : ℕ) (q : ℕ → ℕ) : Type 0 where
  may : MaySplit P k (q k)
  below : q k < e
  best : sides P k s e (q k) ≡ value P (suc k) s e
  left : SpanPlan P k s (q k) q
  right : SpanPlan P k (suc (q k)) e q
  left_cost : span_cost P k s (q k) q ≡ value P k s (q k)
  right_cost : span_cost P k (suc (q k)) e q ≡ value P k (suc (q k)) e

-- neither side costs less than its value, and the two together no more
best_cut : (P : Problem) {n : ℕ} → ByDeadline P n → (k s e : ℕ) (q : ℕ → ℕ) → k < n → SpanPlan P (suc k) s e q → In P s e k
    → Settled P k s e q → span_cost P (suc k) s e q ≡ value P (suc k) s e → BestCut P k s e q
best_cut P by k s e q kn plan h settled c =
    give (plan.fits k (omega arith) h)
    (λ f.
    give (no_plan_is_cheaper P by k s (q k) q (omega arith) (omega arith) (cut_left P k s e q plan h settled))
    (λ l.
    give (no_plan_is_cheaper P by k (suc (q k)) e q (omega arith) (omega arith) (cut_right P k s e q plan h settled))
    (λ r.
    give (cut_may_split P k s e q plan h settled)
    (λ m.
    give (value_le_sides P k s e (q k) h m (omega arith))
    (λ v.
    give (cost_cut P k s e q plan h settled)
    (λ cut.
    give (sides_is P k s e (q k))
    (λ sum.
    record {
      may = m;
      below = omega arith;
      best = omega arith;
      left = cut_left P k s e q plan h settled;
      right = cut_right P k s e q plan h settled;
      left_cost = omega arith;
      right_cost = omega arith;
    })))))))

-- job k at its latest best split t, and the best plans of the two sides
pub record Assembled (P : Problem) (k s e t : ℕ) (b left right : ℕ → ℕ) : Type 0 where
  pub inside : In P s e k
  pub split : LatestBest P k s e t
  pub at : b k ≡ t
  pub parts : Parts P k s t e b left right
  pub best_left : SpanBest P k s t left
  pub best_right : SpanBest P k (suc t) e right

module _ (P : Problem) (k s e t : ℕ) (b left right : ℕ → ℕ) (A : Assembled P k s e t b left right) where
  -- what holds of job k at t and of the jobs of each side in their plan holds of each job in the whole plan
  each_job : (B : ℕ → ℕ → Type 0) → B k t
      → ((j : ℕ) → j < k → In P s t j → B j (left j)) → ((j : ℕ) → j < k → In P (suc t) e j → B j (right j))
      → (j : ℕ) → j < suc k → In P s e j → B j (b j)
  each_job B top f g j l h =
      on_eq j k (λ w. rw (w, A.at) top)
      (λ n.
      give (λ (w : P.release j ≡ t). A.parts.clear j (omega arith) w)
      (λ (m : P.release j ≡ t → ⊥).
      on_le t (P.release j)
      (λ c. rw (A.parts.after j (omega arith) (omega arith)) (g j (omega arith) (omega arith)))
      (λ c. rw (A.parts.before j (omega arith) c) (f j (omega arith) (omega arith)))))

  -- job j is job k, or belongs to a side and starts on that side
  data Side (j x : ℕ) : Type 0 where
    at_split : j ≡ k → x ≡ t → Side j x
    on_left : j < k → In P s t j → x ≡ left j → x < t → Side j x
    on_right : j < k → In P (suc t) e j → x ≡ right j → t < x → Side j x

  side : (j : ℕ) → j < suc k → In P s e j → Side j (b j)
  side =
      each_job Side (at_split refl refl)
      (λ j l h. on_left l h refl (omega (arith, A.best_left.plan.fits j l h)))
      (λ j l h. on_right l h refl (omega (arith, A.best_right.plan.fits j l h)))

  side_apart : (i j x : ℕ) → Side i x → Side j x → i ≡ j
  side_apart i j x (at_split a c) (at_split a' c') = omega arith
  side_apart i j x (at_split a c) (on_left a' h' c' u') = absurd (omega arith)
  side_apart i j x (at_split a c) (on_right a' h' c' u') = absurd (omega arith)
  side_apart i j x (on_left a h c u) (at_split a' c') = absurd (omega arith)
  side_apart i j x (on_left a h c u) (on_left a' h' c' u') = A.best_left.plan.apart i j a a' h h' (omega arith)
  side_apart i j x (on_left a h c u) (on_right a' h' c' u') = absurd (omega arith)
  side_apart i j x (on_right a h c u) (at_split a' c') = absurd (omega arith)
  side_apart i j x (on_right a h c u) (on_left a' h' c' u') = absurd (omega arith)
  side_apart i j x (on_right a h c u) (on_right a' h' c' u') = A.best_right.plan.apart i j a a' h h' (omega arith)

  assembled_plan : SpanPlan P (suc k) s e b
  assembled_plan =
      record {
        allowed = each_job (λ j x. P.allowed x ≡ true) A.split.may.allowed A.best_left.plan.allowed A.best_right.plan.allowed;
        fits =
            each_job (λ j x. (P.release j ≤ x) × (x < P.deadline j) × (x < e))
            (A.split.may.low, A.split.may.high, A.split.below)
            (λ j l h. omega (arith, A.best_left.plan.fits j l h, A.split.below))
            A.best_right.plan.fits;
        apart = λ i j l u h g w. side_apart i j (b j) (rw w at (side i l h)) (side j u g);
      }

  assembled_settled : Settled P k s e b
  assembled_settled i l h c = starts_before (side i (omega arith) h)
    where
      starts_before : Side i (b i) → b i < b k
      starts_before (at_split a d) = absurd (omega arith)
      starts_before (on_left a g d u) = omega (arith, A.at)
      starts_before (on_right a g d u) = absurd (omega (arith, A.at))

  assembled_cost : span_cost P (suc k) s e b ≡ value P (suc k) s e
  assembled_cost =
      give (rw A.at at (cost_cut P k s e b assembled_plan A.inside assembled_settled))
      (λ (c : span_cost P (suc k) s e b ≡ span_cost P k s t b + span_cost P k (suc t) e b).
      omega (
        arith,
        cost_agree P k s t b left A.parts.start (λ i l h. A.parts.before i l (omega arith)),
        cost_agree P k (suc t) e b right A.parts.end (λ i l h. A.parts.after i l (omega arith)),
        A.best_left.costs,
        A.best_right.costs,
        A.split.best,
        sides_is P k s e t,
      ))

  -- against a plan cut at another best split it is later at job k, and against one cut at t it is as late on both sides
  late_over_cut : (q : ℕ → ℕ) → BestCut P k s e q → LateInSpan P (suc k) s e b q
  late_over_cut q c =
      on_eq (q k) t
      (λ z.
      late_more P k s e b q (λ h. A.at ∙ sym z)
      (late_both P k s t e b left right q A.parts
      (A.best_left.latest q (rw z at c.left) (rw z at c.left_cost))
      (A.best_right.latest q (rw z at c.right) (rw z at c.right_cost))))
      (λ z.
      late_at_top P k s e b q A.inside
      (omega (arith, A.at, A.split.late (q k) c.may c.below c.best)))

  assembled_latest : {n : ℕ} → ByDeadline P n → k < n → (q : ℕ → ℕ) → SpanPlan P (suc k) s e q
      → span_cost P (suc k) s e q ≡ value P (suc k) s e → LateInSpan P (suc k) s e b q
  assembled_latest by kn q plan c =
      give (settle P by k s e q kn plan A.inside)
      (λ w.
      give (late_over_cut w.to (best_cut P by k s e w.to kn w.plan A.inside w.settled (w.same_cost ∙ c)))
      (λ over.
      ⊎_elim
      (λ l. late_at_top P k s e b q A.inside (omega (arith, late_top P k s e b w.to A.inside over)))
      (λ z. rw z at over)
      w.later))

  pub assembled_best : {n : ℕ} → ByDeadline P n → k < n → SpanBest P (suc k) s e b
  assembled_best by kn = record { plan = assembled_plan; costs = assembled_cost; latest = assembled_latest by kn }
