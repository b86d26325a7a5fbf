-- The plan read back is a plan of the span, costs the span's value, and is at least as late as every other of that cost. Assumes nothing.
use Prim.Native.Nat.{ℕ, zero, suc, ◌≤◌, ◌<◌}
use mathlib.Core.Path.{sym, ◌∙◌, fun_ext}
use native.Mathlib.Omega.{arith}
use Rattle.day.proofs.Cases.{give}
use Rattle.rule.specs.Span.{Problem, value, split, read_back}
use Rattle.rule.specs.SpanPlan.{ByDeadline, In, same, SpanBest}
use Rattle.rule.proofs.Value.{on_in_span, value_zero, value_out, sides_is, split_found, read_back_out, read_back_last, read_back_left, read_back_right}
use Rattle.rule.proofs.Occupied.{plan_fewer, plan_more, cost_out, cost_zero}
use Rattle.rule.proofs.Late.{late_more}
use Rattle.rule.proofs.Assemble.{assembled_best}

best_of_none : (P : Problem) (s e : ℕ) (b : ℕ → ℕ) → s ≤ e → SpanBest P zero s e b
best_of_none P s e b l =
    record {
      plan = record {
        allowed = λ i h. absurd (omega arith);
        fits = λ i h. absurd (omega arith);
        apart = λ i j h. absurd (omega arith);
      };
      costs = cost_zero P s e b l ∙ sym (value_zero P s e);
      latest = λ q p c. same (λ i h. absurd (omega arith));
    }

best_out : (P : Problem) (k s e : ℕ) (b : ℕ → ℕ) → s ≤ e → (In P s e k → ⊥) → SpanBest P k s e b → SpanBest P (suc k) s e b
best_out P k s e b l n best =
    record {
      plan = plan_more P k s e b n best.plan;
      costs = omega (arith, cost_out P k s e b l n, value_out P k s e n, best.costs);
      latest = λ q p c.
          late_more P k s e b q (λ h. absurd (n h))
          (best.latest q (plan_fewer P k s e q p) (omega (arith, cost_out P k s e q l n, value_out P k s e n)));
    }

pub read_back_is_best : (P : Problem) {n : ℕ} → ByDeadline P n → (k s e : ℕ) → k ≤ n → s ≤ e → value P k s e < P.none
    → SpanBest P k s e (read_back P k s e)
read_back_is_best P by zero s e kn l v = best_of_none P s e (read_back P zero s e) l
read_back_is_best P by (suc k) s e kn l v =
    on_in_span P s e k
    (λ h.
    give (split_found P k s e h v)
    (λ found.
    give (sides_is P k s e (split P k s e))
    (λ sum.
    assembled_best P k s e (split P k s e) (read_back P (suc k) s e) (read_back P k s (split P k s e))
    (read_back P k (suc (split P k s e)) e)
    (record {
      inside = h;
      split = found;
      at = read_back_last P k s e h;
      parts = record {
        start = omega (arith, found.may.low);
        end = found.below;
        clear = found.may.clear;
        before = λ i u c. read_back_left P k s e i h u c;
        after = λ i u c. read_back_right P k s e i h u (omega arith);
      };
      best_left = read_back_is_best P by k s (split P k s e) (omega arith) (omega (arith, found.may.low)) (omega (arith, found.best));
      best_right = read_back_is_best P by k (suc (split P k s e)) e (omega arith) found.below (omega (arith, found.best));
    })
    by kn)))
    (λ n.
    rw (fun_ext (λ i. read_back_out P k s e i n))
    (best_out P k s e (read_back P k s e) l n
    (read_back_is_best P by k s e (omega arith) l (omega (arith, value_out P k s e n)))))
