-- The cost law: between the two far points a day with a job costs its cost and two wakes, one without costs one. Assumes nothing.
use Prim.Native.Nat.{ℕ, zero, suc, ◌+◌, ◌-◌, ◌≤◌, ◌<◌}
use mathlib.Core.Path.{◌≡◌, refl, ◌∙◌, ap}
use mathlib.Core.Bool.{Bool, true, false}
use native.Mathlib.Omega.{arith}
use lib.Dec.{eqb}
use borrow.Author.Tests.{eq-eqb, ne_eqb}
use Rattle.day.specs.declared.Day.{Day}
use Rattle.day.specs.Plan.{Plan, taken}
use Rattle.day.specs.Gap.{price, gaps_since, gaps, total, cost}
use Rattle.day.specs.Far.{far_price}
use Rattle.day.proofs.Cases.{on, on_eq, not_both, or_right}
use Rattle.day.specs.Span.{walk, span}
use Rattle.day.proofs.Span.{walk_zero, walk_full, walk_empty, span_empty}
use Rattle.day.proofs.Plan.{taken_intro, taken_false}
use Rattle.day.proofs.Gap.{total_none, total_ended, gaps_since_none, gaps_since_full, gaps_since_empty, gaps_full, gaps_empty}

pub far_price_start : (day : Day) (e : ℕ) → far_price day 0 e ≡ day.power.wake
unfolding far_price
far_price_start day e = refl

pub far_price_end : (day : Day) (s e : ℕ) → e ≡ day.slots + 2 → far_price day s e ≡ day.power.wake
unfolding far_price
far_price_end day s e q = rw (or_right (eqb s 0) (eqb e (day.slots + 2)) (eq-eqb e (day.slots + 2) q))

pub far_price_inside : (day : Day) (s e : ℕ) → (s ≡ 0 → ⊥) → (e ≡ day.slots + 2 → ⊥)
    → far_price day s e ≡ price day.power (e - s)
unfolding far_price
far_price_inside day s e a b = rw (ne_eqb s 0 a, ne_eqb e (day.slots + 2) b)

-- the full slots, counted from 1
unfoldable pub from_one : (ℕ → Bool) → ℕ → Bool
from_one full zero = false
from_one full (suc t) = full t

pub from_one_zero : (full : ℕ → Bool) → from_one full 0 ≡ false
unfolding from_one
from_one_zero full = refl

pub from_one_suc : (full : ℕ → Bool) (t : ℕ) → from_one full (suc t) ≡ full t
unfolding from_one
from_one_suc full t = refl

module _ (day : Day) (full : ℕ → Bool) (ends : full day.slots ≡ false) where
  -- from point t + 1, with g empty slots since the last job, to the far end: what the gaps cost, and a wake
  walk_since : (m g a t : ℕ) → t + m ≡ day.slots → suc t ≡ suc a + g
      → walk (far_price day) (from_one full) (suc a) (suc t) (suc m)
      ≡ total (price day.power) (gaps_since full g t m) + day.power.wake
  walk_since zero g a t p q =
      let last : t ≡ day.slots = omega arith in
      rw (
        walk_empty (far_price day) (from_one full) (suc a) (suc t) 0 (from_one_suc full t ∙ ap full last ∙ ends),
        walk_zero (far_price day) (from_one full) (suc a) (suc (suc t)),
        far_price_end day (suc a) (suc (suc t)) (omega arith),
        gaps_since_none full g t,
        total_none (price day.power),
      )
      (omega arith)
  walk_since (suc m) g a t p q =
      on (full t)
      (λ e.
      let length : suc t - suc a ≡ g = omega arith in
      rw (
        walk_full (far_price day) (from_one full) (suc a) (suc t) (suc m) (from_one_suc full t ∙ e),
        far_price_inside day (suc a) (suc t) (λ z. omega arith) (λ z. omega arith),
        length,
        gaps_since_full full g t m e,
        total_ended day.power g (gaps_since full 0 (suc t) m),
        walk_since m 0 (suc t) (suc t) (omega arith) (omega arith),
      )
      (omega arith))
      (λ e.
      walk_empty (far_price day) (from_one full) (suc a) (suc t) (suc m) (from_one_suc full t ∙ e)
      ∙ walk_since m (suc g) a (suc t) (omega arith) (omega arith)
      ∙ rw (gaps_since_empty full g t m e))

  -- from point t + 1, with no job before it, to the far end
  walk_before : (m t u : ℕ) → t + m ≡ day.slots → t ≤ u → u < day.slots → full u ≡ true
      → walk (far_price day) (from_one full) 0 (suc t) (suc m)
      ≡ total (price day.power) (gaps full t m) + (day.power.wake + day.power.wake)
  walk_before zero t u p l h w = absurd (omega arith)
  walk_before (suc m) t u p l h w =
      on (full t)
      (λ e.
      rw (
        walk_full (far_price day) (from_one full) 0 (suc t) (suc m) (from_one_suc full t ∙ e),
        far_price_start day (suc t),
        gaps_full full t m e,
        walk_since m 0 (suc t) (suc t) (omega arith) (omega arith),
      )
      (omega arith))
      (λ e.
      on_eq t u (λ q. absurd (not_both w (rw q at e)))
      (λ q.
      walk_empty (far_price day) (from_one full) 0 (suc t) (suc m) (from_one_suc full t ∙ e)
      ∙ walk_before m (suc t) u (omega arith) (omega arith) h w
      ∙ rw (gaps_empty full t m e)))

  -- with a job
  pub far_some : (t : ℕ) → t < day.slots → full t ≡ true
      → span (far_price day) (from_one full) 0 (day.slots + 2)
      ≡ total (price day.power) (gaps full 0 day.slots) + (day.power.wake + day.power.wake)
  unfolding span
  far_some t l w =
      let length : day.slots + 2 - 0 ≡ suc (suc day.slots) = omega arith in
      rw (length, walk_empty (far_price day) (from_one full) 0 0 (suc day.slots) (from_one_zero full))
      (walk_before day.slots 0 t (omega arith) (omega arith) l w)

-- with no job
pub far_none : (day : Day) (full : ℕ → Bool) → ((t : ℕ) → full t ≡ false)
    → span (far_price day) (from_one full) 0 (day.slots + 2) ≡ day.power.wake
far_none day full none =
    span_empty (far_price day) (from_one full) 0 (day.slots + 2) (omega arith) (λ t l u. still t)
    ∙ far_price_start day (day.slots + 2)
  where
    still : (t : ℕ) → from_one full t ≡ false
    still zero = from_one_zero full
    still (suc t) = from_one_suc full t ∙ none t

-- the cost of a plan with a row, between the far points
pub cost_far : (day : Day) (n : ℕ) (p : Plan) → 0 < n → ((i : ℕ) → i < n → p i < day.slots)
    → span (far_price day) (from_one (taken n p)) 0 (day.slots + 2)
    ≡ cost day n p + (day.power.wake + day.power.wake)
unfolding cost
cost_far day n p some inside =
    far_some day (taken n p)
    (taken_false n p day.slots (λ w. omega (arith, inside w.row w.below)))
    (p 0) (inside 0 some) (taken_intro n p (p 0) 0 some refl)

-- the cost of a plan with no row, between the far points
pub cost_far_none : (day : Day) (p : Plan)
    → span (far_price day) (from_one (taken 0 p)) 0 (day.slots + 2) ≡ day.power.wake
cost_far_none day p = far_none day (taken 0 p) (λ t. taken_false 0 p t (λ w. omega arith))
