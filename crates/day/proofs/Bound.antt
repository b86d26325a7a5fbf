-- Bounds of the cost: the slots of the day, and a wake for each row but one. Assumes nothing.
use Prim.Native.Nat.{ℕ, zero, suc, ◌+◌, ◌-◌, ◌*◌, ◌≤◌}
use mathlib.Core.Bool.{Bool}
use mathlib.Core.List.{List, [], ◌∷◌}
use native.Mathlib.Omega.{arith}
use native.Mathlib.Nat.{suc-mul, mul-le-mul_right}
use lib.ListN.{length}
use Rattle.day.specs.declared.Power.{Power}
use Rattle.day.specs.declared.Day.{Day}
use Rattle.day.specs.Plan.{Plan, taken}
use Rattle.day.specs.Gap.{price, gaps_since, gaps, total, cost}
use Rattle.day.proofs.Cases.{on}
use Rattle.day.proofs.Gap.{price_at_most_wake, price_at_most_length, total_none, total_cons, total_ended, gaps_since_none, gaps_since_full, gaps_since_empty, gaps_none, gaps_full, gaps_empty}
use Rattle.day.proofs.FewerGaps.{fewer_gaps_than_rows}

-- a gap costs at most its length

total_since_at_most_slots : (power : Power) (full : ℕ → Bool) (m g t : ℕ)
    → total (price power) (gaps_since full g t m) ≤ g + m
total_since_at_most_slots power full zero g t = rw (gaps_since_none full g t, total_none) (omega arith)
total_since_at_most_slots power full (suc m) g t =
    on (full t)
    (λ e.
    rw (gaps_since_full full g t m e, total_ended)
    (omega (arith, price_at_most_length power g, total_since_at_most_slots power full m 0 (suc t))))
    (λ e.
    rw (gaps_since_empty full g t m e) (omega (arith, total_since_at_most_slots power full m (suc g) (suc t))))

total_at_most_slots : (power : Power) (full : ℕ → Bool) (m t : ℕ) → total (price power) (gaps full t m) ≤ m
total_at_most_slots power full zero t = rw (gaps_none full t, total_none) (omega arith)
total_at_most_slots power full (suc m) t =
    on (full t)
    (λ e. rw (gaps_full full t m e) (omega (arith, total_since_at_most_slots power full m 0 (suc t))))
    (λ e. rw (gaps_empty full t m e) (omega (arith, total_at_most_slots power full m (suc t))))

pub cost_at_most_slots : (day : Day) (n : ℕ) (p : Plan) → cost day n p ≤ day.slots
unfolding cost
cost_at_most_slots day n p = total_at_most_slots day.power (taken n p) day.slots 0

-- a gap costs at most a wake
total_at_most_wakes : (power : Power) (gs : List ℕ) → total (price power) gs ≤ length gs * power.wake
total_at_most_wakes power [] = rw total_none (omega arith)
total_at_most_wakes power (g ∷ gs) =
    rw (total_cons, suc-mul) (omega (arith, price_at_most_wake power g, total_at_most_wakes power gs))

pub cost_at_most_wakes : (day : Day) (n : ℕ) (p : Plan) → cost day n p ≤ (n - 1) * day.power.wake
unfolding cost
cost_at_most_wakes day n p =
    omega (
      arith,
      total_at_most_wakes day.power (gaps (taken n p) 0 day.slots),
      mul-le-mul_right day.power.wake (fewer_gaps_than_rows n p day.slots),
    )
