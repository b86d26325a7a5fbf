-- Plans of a span, which job stands at a slot, and what a plan of a span costs. Assumes nothing.
use Prim.Native.Nat.{ℕ, zero, suc, ◌≤◌, ◌<◌}
use mathlib.Core.Path.{◌≡◌, refl}
use mathlib.Core.Bool.{true, ◌&&◌}
use mathlib.Core.Logic.{⊎_elim}
use native.Mathlib.Omega.{arith}
use lib.Dec.{eqb}
use borrow.Author.Tests.{eqb-true, eq-eqb}
use Rattle.day.proofs.Cases.{on_eq, give, not_both, bool_ext, and_left, and_right, and_intro, or_cases, or_left, or_right}
use Rattle.day.proofs.Span.{span_cong, span_empty}
use Rattle.rule.specs.Span.{Problem, in_span}
use Rattle.rule.specs.SpanPlan.{In, SpanPlan, occupied, span_cost}
use Rattle.rule.proofs.Value.{in_span_true, in_span_intro}

-- a plan of the lowest k + 1 jobs is one of the lowest k
pub plan_fewer : (P : Problem) (k s e : ℕ) (q : ℕ → ℕ) → SpanPlan P (suc k) s e q → SpanPlan P k s e q
plan_fewer P k s e q plan =
    record {
      allowed = λ i l h. plan.allowed i (omega arith) h;
      fits = λ i l h. plan.fits i (omega arith) h;
      apart = λ i j l u h g w. plan.apart i j (omega arith) (omega arith) h g w;
    }

-- and the other way round, where job k is none of the span
pub plan_more : (P : Problem) (k s e : ℕ) (b : ℕ → ℕ) → (In P s e k → ⊥) → SpanPlan P k s e b → SpanPlan P (suc k) s e b
plan_more P k s e b n plan =
    give (λ (i : ℕ) (l : i < suc k) (h : In P s e i). on_eq i k (λ w. absurd (n (rw w at h))) (λ w. omega arith))
    (λ (lower : (i : ℕ) → i < suc k → In P s e i → i < k).
    record {
      allowed = λ i l h. plan.allowed i (lower i l h) h;
      fits = λ i l h. plan.fits i (lower i l h) h;
      apart = λ i j l u h g w. plan.apart i j (lower i l h) (lower j u g) h g w;
    })

-- the job below k of the span that stands at t
pub record Stands (P : Problem) (k s e : ℕ) (start : ℕ → ℕ) (t : ℕ) : Type 0 where
  pub job : ℕ
  pub below : job < k
  pub inside : In P s e job
  pub at : start job ≡ t

pub stands : {P : Problem} {k s e : ℕ} {start : ℕ → ℕ} {t : ℕ} (i : ℕ) → i < k → In P s e i → start i ≡ t → Stands P k s e start t
stands i l h q = record { job = i; below = l; inside = h; at = q }

pub occupied_true : (P : Problem) (k s e : ℕ) (start : ℕ → ℕ) (t : ℕ) → occupied P k s e start t ≡ true → Stands P k s e start t
unfolding occupied
occupied_true P zero s e start t h = absurd (not_both h refl)
occupied_true P (suc k) s e start t h =
    ⊎_elim
    (λ w.
    stands k (omega arith)
    (in_span_true P s e k (and_left (in_span P s e k) (eqb (start k) t) w))
    (eqb-true (start k) t (and_right (in_span P s e k) (eqb (start k) t) w)))
    (λ w. give (occupied_true P k s e start t w) (λ o. stands o.job (omega arith) o.inside o.at))
    (or_cases (in_span P s e k && eqb (start k) t) (occupied P k s e start t) h)

pub occupied_intro : (P : Problem) (k s e : ℕ) (start : ℕ → ℕ) (t i : ℕ) → i < k → In P s e i → start i ≡ t
    → occupied P k s e start t ≡ true
unfolding occupied
occupied_intro P zero s e start t i l h q = absurd (omega arith)
occupied_intro P (suc k) s e start t i l h q =
    on_eq i k
    (λ w.
    or_left (in_span P s e k && eqb (start k) t) (occupied P k s e start t)
    (and_intro (in_span P s e k) (eqb (start k) t) (rw w at (in_span_intro P s e i h)) (eq-eqb (start k) t (rw w at q))))
    (λ w.
    or_right (in_span P s e k && eqb (start k) t) (occupied P k s e start t)
    (occupied_intro P k s e start t i (omega arith) h q))

-- a slot is occupied in both or in neither, whatever the number of jobs, the span and the plan of each
pub occupied_same : (P : Problem) (k k' s e s' e' : ℕ) (p q : ℕ → ℕ) (t : ℕ)
    → (Stands P k s e p t → Stands P k' s' e' q t)
    → (Stands P k' s' e' q t → Stands P k s e p t)
    → occupied P k s e p t ≡ occupied P k' s' e' q t
occupied_same P k k' s e s' e' p q t to from =
    bool_ext (occupied P k s e p t) (occupied P k' s' e' q t)
    (λ h. give (to (occupied_true P k s e p t h)) (λ o. occupied_intro P k' s' e' q t o.job o.below o.inside o.at))
    (λ h. give (from (occupied_true P k' s' e' q t h)) (λ o. occupied_intro P k s e p t o.job o.below o.inside o.at))

-- two plans that occupy the same slots cost the same
pub cost_same : (P : Problem) (k k' s e : ℕ) (p q : ℕ → ℕ) → s ≤ e
    → ((t : ℕ) → Stands P k s e p t → Stands P k' s e q t)
    → ((t : ℕ) → Stands P k' s e q t → Stands P k s e p t)
    → span_cost P k s e p ≡ span_cost P k' s e q
unfolding span_cost
cost_same P k k' s e p q l to from =
    span_cong P.price (occupied P k s e p) (occupied P k' s e q) s e l
    (λ t h u. occupied_same P k k' s e s e p q t (to t) (from t))

-- only the starts of the jobs of the span matter
pub cost_agree : (P : Problem) (k s e : ℕ) (p q : ℕ → ℕ) → s ≤ e → ((i : ℕ) → i < k → In P s e i → p i ≡ q i)
    → span_cost P k s e p ≡ span_cost P k s e q
cost_agree P k s e p q l f =
    cost_same P k k s e p q l
    (λ t o. stands o.job o.below o.inside (omega (arith, f o.job o.below o.inside)))
    (λ t o. stands o.job o.below o.inside (omega (arith, f o.job o.below o.inside)))

-- a job outside the span costs nothing in it
pub cost_out : (P : Problem) (k s e : ℕ) (p : ℕ → ℕ) → s ≤ e → (In P s e k → ⊥) → span_cost P (suc k) s e p ≡ span_cost P k s e p
cost_out P k s e p l n =
    cost_same P (suc k) k s e p p l
    (λ t o.
    on_eq o.job k (λ q. absurd (n (rw q at o.inside))) (λ q. stands o.job (omega arith) o.inside o.at))
    (λ t o. stands o.job (omega arith) o.inside o.at)

pub cost_zero : (P : Problem) (s e : ℕ) (p : ℕ → ℕ) → s ≤ e → span_cost P 0 s e p ≡ P.price s e
unfolding span_cost occupied
cost_zero P s e p l = span_empty P.price (occupied P 0 s e p) s e l (λ t h u. refl)
