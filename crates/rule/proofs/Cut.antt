-- A settled plan falls apart at the start of its highest job into a plan of each side, and their costs add up. Assumes nothing.
use Prim.Native.Nat.{ℕ, suc, ◌+◌, ◌≤◌, ◌<◌}
use mathlib.Core.Path.{◌≡◌, refl, ap}
use native.Mathlib.Omega.{arith}
use Rattle.day.proofs.Cases.{on_eq, on_le, give}
use Rattle.day.proofs.Span.{span_cong, span_split}
use Rattle.rule.specs.Span.{Problem}
use Rattle.rule.specs.SpanPlan.{In, SpanPlan, occupied, span_cost}
use Rattle.rule.proofs.Value.{MaySplit}
use Rattle.rule.proofs.Occupied.{stands, occupied_intro, occupied_same}

-- the lower jobs of the span that are released by the start of job k start before it
abbrev pub Settled : Problem → ℕ → ℕ → ℕ → (ℕ → ℕ) → Type 0
Settled P k s e q = (i : ℕ) → i < k → In P s e i → P.release i ≤ q k → q i < q k

module _ (P : Problem) (k s e : ℕ) (q : ℕ → ℕ) (plan : SpanPlan P (suc k) s e q) (inside : In P s e k) (settled : Settled P k s e q) where
  -- no lower job is released where job k starts: it would start before its release
  pub cut_may_split : MaySplit P k (q k)
  cut_may_split =
      give (plan.fits k (omega arith) inside)
      (λ f.
      record {
        allowed = plan.allowed k (omega arith) inside;
        low = omega arith;
        high = omega arith;
        clear = λ i l w.
            give (settled i l (omega arith) (omega arith)) (λ c. omega (arith, plan.fits i (omega arith) (omega arith)));
      })

  pub cut_left : SpanPlan P k s (q k) q
  cut_left =
      give (plan.fits k (omega arith) inside)
      (λ f.
      record {
        allowed = λ i l h. plan.allowed i (omega arith) (omega arith);
        fits = λ i l h.
            give (settled i l (omega arith) (omega arith)) (λ c. omega (arith, plan.fits i (omega arith) (omega arith)));
        apart = λ i j l u h g w. plan.apart i j (omega arith) (omega arith) (omega arith) (omega arith) w;
      })

  pub cut_right : SpanPlan P k (suc (q k)) e q
  cut_right =
      give (plan.fits k (omega arith) inside)
      (λ f.
      record {
        allowed = λ i l h. plan.allowed i (omega arith) (omega arith);
        fits = λ i l h. plan.fits i (omega arith) (omega arith);
        apart = λ i j l u h g w. plan.apart i j (omega arith) (omega arith) (omega arith) (omega arith) w;
      })

  -- before job k stand the lower jobs released before its start
  occupied_left : (t : ℕ) → t < q k → occupied P (suc k) s e q t ≡ occupied P k s (q k) q t
  occupied_left t l =
      give (plan.fits k (omega arith) inside)
      (λ f.
      occupied_same P (suc k) k s e s (q k) q q t
      (λ o.
      on_eq o.job k (λ w. absurd (omega (arith, ap q w)))
      (λ w. stands o.job (omega arith) (omega (arith, plan.fits o.job o.below o.inside)) o.at))
      (λ o. stands o.job (omega arith) (omega arith) o.at))

  -- after it stand the lower jobs released after its start
  occupied_right : (t : ℕ) → q k < t → occupied P (suc k) s e q t ≡ occupied P k (suc (q k)) e q t
  occupied_right t l =
      give (plan.fits k (omega arith) inside)
      (λ f.
      occupied_same P (suc k) k s e (suc (q k)) e q q t
      (λ o.
      on_eq o.job k (λ w. absurd (omega (arith, ap q w)))
      (λ w.
      on_le (P.release o.job) (q k)
      (λ c. absurd (omega (arith, settled o.job (omega arith) o.inside c)))
      (λ c. stands o.job (omega arith) (omega arith) o.at)))
      (λ o. stands o.job (omega arith) (omega arith) o.at))

  pub cost_cut : span_cost P (suc k) s e q ≡ span_cost P k s (q k) q + span_cost P k (suc (q k)) e q
  unfolding span_cost
  cost_cut =
      give (plan.fits k (omega arith) inside)
      (λ f.
      omega (
        arith,
        span_split P.price (occupied P (suc k) s e q) s (q k) e (omega arith) (omega arith)
            (occupied_intro P (suc k) s e q (q k) k (omega arith) inside refl),
        span_cong P.price (occupied P (suc k) s e q) (occupied P k s (q k) q) s (q k) (omega arith)
            (λ t h l. occupied_left t l),
        span_cong P.price (occupied P (suc k) s e q) (occupied P k (suc (q k)) e q) (suc (q k)) e (omega arith)
            (λ t h l. occupied_right t h),
      ))
