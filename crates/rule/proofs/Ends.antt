-- What the far points add to the cost of a plan, and that it comes off again. Assumes nothing.
use Prim.Native.Nat.{ℕ, zero, suc, ◌+◌, ◌-◌, ◌≤◌, ◌<◌}
use mathlib.Core.Path.{◌≡◌, refl, sym, ◌∙◌}
use native.Mathlib.Omega.{arith}
use borrow.Author.Tests.{ne_eqb}
use Rattle.day.specs.declared.Day.{Day}
use Rattle.day.specs.Plan.{Plan, taken}
use Rattle.day.specs.Gap.{cost}
use Rattle.day.specs.Far.{far_price}
use Rattle.day.specs.Span.{span}
use Rattle.day.proofs.Gap.{cost_none}
use Rattle.day.proofs.Far.{from_one, cost_far, cost_far_none}
use Rattle.rule.specs.Whole.{without_ends}

pub without_ends_none : (day : Day) (v : ℕ) → without_ends day 0 v ≡ 0
unfolding without_ends
without_ends_none day v = refl

pub without_ends_some : (day : Day) (n v : ℕ) → 0 < n
    → without_ends day n v ≡ v - (day.power.wake + day.power.wake)
unfolding without_ends
without_ends_some day n v h = rw (ne_eqb n 0 (λ z. omega arith))

-- the wakes that the far points add: two, and one with no jobs
unfoldable pub ends : Day → ℕ → ℕ
ends day zero = day.power.wake
ends day (suc n) = day.power.wake + day.power.wake

pub ends_at_most_two : (day : Day) (n : ℕ) → ends day n ≤ day.power.wake + day.power.wake
unfolding ends
ends_at_most_two day zero = omega arith
ends_at_most_two day (suc n) = omega arith

-- between the far points a plan costs its cost and the ends
pub cost_and_ends : (day : Day) (n : ℕ) (p : Plan) → ((i : ℕ) → i < n → p i < day.slots)
    → span (far_price day) (from_one (taken n p)) 0 (day.slots + 2) ≡ cost day n p + ends day n
unfolding ends
cost_and_ends day zero p h = omega (arith, cost_far_none day p, cost_none day p)
cost_and_ends day (suc n) p h = cost_far day (suc n) p (omega arith) h

pub ends_come_off : (day : Day) (n : ℕ) (p : Plan) → without_ends day n (cost day n p + ends day n) ≡ cost day n p
unfolding ends
ends_come_off day zero p = without_ends_none day (cost day 0 p + ends day 0) ∙ sym (cost_none day p)
ends_come_off day (suc n) p =
    omega (arith, without_ends_some day (suc n) (cost day (suc n) p + ends day (suc n)) (omega arith))
