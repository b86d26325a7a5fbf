-- The rule is right on a whole day: its value is below `none` exactly if there is a proper plan, and then the plan read back is the
-- best one. Assumes nothing.
use Prim.Native.Nat.{ℕ, ◌+◌, ◌≤◌, ◌<◌}
use mathlib.Core.Path.{◌≡◌, refl, sym, ◌∙◌, ap}
use native.Mathlib.Omega.{arith}
use Rattle.day.specs.declared.Day.{Day}
use Rattle.day.specs.Windows.{Windows}
use Rattle.day.specs.Plan.{Plan, Proper, NoPlan, taken}
use Rattle.day.specs.Gap.{cost}
use Rattle.day.specs.Best.{Best}
use Rattle.day.specs.Far.{far_price}
use Rattle.day.proofs.Far.{from_one}
use Rattle.day.proofs.Cases.{give}
use Rattle.day.proofs.Span.{span_cong}
use Rattle.rule.specs.Span.{Problem}
use Rattle.rule.specs.Whole.{problem, whole, whole_back, without_ends, ByNumber, Ready}
use Rattle.rule.specs.SpanPlan.{occupied, span_cost, SpanBest}
use Rattle.rule.proofs.LowerBound.{no_plan_is_cheaper}
use Rattle.rule.proofs.Optimal.{read_back_is_best}
use Rattle.rule.proofs.Numbering.{plan_by_number}
use Rattle.rule.proofs.Rows.{released_in_day, by_deadline, rows_to_numbers, numbers_to_rows, same_taken, late_by_row}
use Rattle.rule.proofs.Ends.{ends, ends_at_most_two, cost_and_ends, ends_come_off}

module _ (day : Day) (w : Windows) (row : ℕ → ℕ) (none : ℕ) (R : Ready day w row none) where
  abbrev jobs : Problem
  jobs = problem day w row none

  -- a plan's starts by number, counted from 1
  abbrev by_number : Plan → ℕ → ℕ
  by_number p k = p (row k) + 1

  -- by number a proper plan costs its cost and the ends
  cost_by_number : (p : Plan) (b : ℕ → ℕ) → ByNumber w.count row p b → Proper w p
      → span_cost jobs w.count 0 (day.slots + 2) b ≡ cost day w.count p + ends day w.count
  unfolding span_cost
  cost_by_number p b e P =
      span_cong (far_price day) (occupied jobs w.count 0 (day.slots + 2) b) (from_one (taken w.count p)) 0
      (day.slots + 2) (omega arith) (λ t l u. same_taken day w row none R p b e t)
      ∙ cost_and_ends day w.count p (λ i l. omega (arith, P.inside i l, R.in_day i l))

  -- no proper plan costs less than the value
  whole_least : (p : Plan) → Proper w p → whole day w row none ≤ cost day w.count p + ends day w.count
  whole_least p P =
      omega (
        arith,
        no_plan_is_cheaper jobs (by_deadline day w row none R) w.count 0 (day.slots + 2) (by_number p)
            (omega arith) (omega arith) (rows_to_numbers day w row none R p (by_number p) (λ k l. refl) P),
        cost_by_number p (by_number p) (λ k l. refl) P,
      )

  -- where there is a proper plan the value is below `none`
  whole_below : (p : Plan) → Proper w p → whole day w row none < none
  whole_below p P = omega (arith, whole_least p P, ends_at_most_two day w.count, R.above p P)

  -- a value of `none` says that there is no proper plan
  pub whole_none : none ≤ whole day w row none → NoPlan w
  whole_none h p P = omega (arith, whole_below p P)

  module _ (h : whole day w row none < none) where
    back_best : SpanBest jobs w.count 0 (day.slots + 2) (whole_back day w row none)
    back_best =
        read_back_is_best jobs (by_deadline day w row none R) w.count 0 (day.slots + 2) (omega arith)
        (omega arith) h

    -- every start read back is a slot of the day, counted from 1
    pub back_in_day : (k : ℕ) → k < w.count
        → (1 ≤ whole_back day w row none k) × (whole_back day w row none k ≤ day.slots)
    back_in_day k l =
        omega (
          arith,
          back_best.plan.fits k l (released_in_day day w row none R k l),
          R.in_day (row k) (R.numbered.within k l),
        )

    module _ (p : Plan) (e : ByNumber w.count row p (whole_back day w row none)) where
      back_proper : Proper w p
      back_proper = numbers_to_rows day w row none R p (whole_back day w row none) e back_best.plan

      back_cost : cost day w.count p + ends day w.count ≡ whole day w row none
      back_cost = sym (cost_by_number p (whole_back day w row none) e back_proper) ∙ back_best.costs

      -- the plan read back is the best
      pub whole_best : Best day w p
      whole_best =
          record {
            proper = back_proper;
            cheapest = λ q Q. omega (arith, back_cost, whole_least q Q);
            latest = λ q Q c.
                late_by_row day w row none R p q (whole_back day w row none) (by_number q) e (λ k l. refl)
                (back_best.latest (by_number q) (rows_to_numbers day w row none R q (by_number q) (λ k l. refl) Q)
                (cost_by_number q (by_number q) (λ k l. refl) Q ∙ omega (arith, back_cost)));
          }

      -- and costs the value without the ends
      pub whole_cost : cost day w.count p ≡ without_ends day w.count (whole day w row none)
      whole_cost = sym (ends_come_off day w.count p) ∙ ap (without_ends day w.count) back_cost

    -- a value below `none` says that there is a best plan
    pub whole_some : (p : Plan) × Best day w p
    whole_some =
        give (plan_by_number w.count w.deadline row R.numbered (whole_back day w row none) (λ k l. (back_in_day k l).0))
        (λ b. (b.0, whole_best b.0 b.1))
