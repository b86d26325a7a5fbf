-- No plan of a span costs less than the span's value. Assumes nothing.
use Prim.Native.Nat.{ℕ, zero, suc, ◌≤◌}
use native.Mathlib.Omega.{arith}
use Rattle.day.proofs.Cases.{give}
use Rattle.rule.specs.Span.{Problem, value}
use Rattle.rule.specs.SpanPlan.{ByDeadline, SpanPlan, span_cost}
use Rattle.rule.proofs.Value.{on_in_span, value_zero, value_out, value_le_sides, sides_is}
use Rattle.rule.proofs.Occupied.{plan_fewer, cost_out, cost_zero}
use Rattle.rule.proofs.Cut.{cut_may_split, cut_left, cut_right, cost_cut}
use Rattle.rule.proofs.Swap.{settle}

-- settle the plan at job k; then each side costs at least its value, and the sum of the two is at least the least sum
pub no_plan_is_cheaper : (P : Problem) {n : ℕ} → ByDeadline P n → (k s e : ℕ) (q : ℕ → ℕ) → k ≤ n → s ≤ e → SpanPlan P k s e q
    → value P k s e ≤ span_cost P k s e q
no_plan_is_cheaper P by zero s e q kn l plan = omega (arith, value_zero P s e, cost_zero P s e q l)
no_plan_is_cheaper P by (suc k) s e q kn l plan =
    on_in_span P s e k
    (λ h.
    give (settle P by k s e q kn plan h)
    (λ w.
    give (w.plan.fits k (omega arith) h)
    (λ f.
    omega (
      arith,
      w.same_cost,
      cost_cut P k s e w.to w.plan h w.settled,
      no_plan_is_cheaper P by k s (w.to k) w.to (omega arith) (omega arith) (cut_left P k s e w.to w.plan h w.settled),
      no_plan_is_cheaper P by k (suc (w.to k)) e w.to (omega arith) (omega arith) (cut_right P k s e w.to w.plan h w.settled),
      value_le_sides P k s e (w.to k) h (cut_may_split P k s e w.to w.plan h w.settled) (omega arith),
      sides_is P k s e (w.to k),
    ))))
    (λ n.
    omega (
      arith,
      value_out P k s e n,
      cost_out P k s e q l n,
      no_plan_is_cheaper P by k s e q (omega arith) l (plan_fewer P k s e q plan),
    ))
