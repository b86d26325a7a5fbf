-- The walk over the slots that prices the gaps: what is left to pay, slot by slot. Assumes nothing.
use Prim.Native.Nat.{ℕ, suc, ◌+◌, ◌-◌, ◌≤◌, ◌<◌}
use mathlib.Core.Path.{◌≡◌, sym, ap}
use mathlib.Core.Bool.{false}
use mathlib.Core.List.{List}
use native.Mathlib.Omega.{arith}
use native.Mathlib.Numerals.{add-one}
use lib.ListN.{length, take}
use Rattle.day.specs.declared.Day.{Day}
use Rattle.day.specs.Plan.{Plan, taken}
use Rattle.checks.specs.Check.{most_slots}
use Rattle.day.specs.declared.Power.{Power}
use Rattle.day.specs.Gap.{price, gaps_since, total, cost}
use Rattle.day.proofs.Cases.{on}
use Rattle.day.proofs.Gap.{
  price_at_most_length,
  total_none,
  total_ended,
  gaps_since_none,
  gaps_since_full,
  gaps_since_empty,
  gaps_same,
  gaps_from_first,
}
use Rattle.day.specs.Windows.{at}
use Rattle.claim.specs.Rows.{RowsBySlot, NextJob, holds_job, HoldsJob}
use Rattle.claim.specs.steps.Starts.{rows_cost}
use Rattle.claim.proofs.Rows.{holds_job_true, holds_job_false, holds_taken, rows_cut, next_within}

-- what is left to pay from slot t on, where g slots have been empty since the last job
unfoldable pub left_to_pay : Power → List ℕ → ℕ → ℕ → ℕ
left_to_pay power rows g t = total (price power) (gaps_since (holds_job (at rows)) g t (length rows - t))

module _ (power : Power) (rows : List ℕ) where
  pay_job : (g t : ℕ) → t < length rows → HoldsJob rows t
      → left_to_pay power rows g t ≡ price power g + left_to_pay power rows 0 (t + 1)
  unfolding left_to_pay
  pay_job g t h full =
      let here : length rows - t ≡ suc (length rows - suc t) = omega arith in
      rw (add-one t, here, gaps_since_full (holds_job (at rows)) g t (length rows - suc t) full) (total_ended power g _)

  pay_empty : (g t : ℕ) → t < length rows → holds_job (at rows) t ≡ false
      → left_to_pay power rows g t ≡ left_to_pay power rows (g + 1) (t + 1)
  unfolding left_to_pay
  pay_empty g t h empty =
      let here : length rows - t ≡ suc (length rows - suc t) = omega arith in
      rw (add-one t, add-one g, here, gaps_since_empty (holds_job (at rows)) g t (length rows - suc t) empty)

  pay_end : (g t : ℕ) → length rows ≤ t → left_to_pay power rows g t ≡ 0
  unfolding left_to_pay
  pay_end g t h =
      let here : length rows - t ≡ 0 = omega arith in
      rw (here, gaps_since_none (holds_job (at rows)) g t) (total_none (price power))

  pay_first : (s : ℕ) → NextJob rows 0 s → left_to_pay power rows 0 s ≡ rows_cost power rows
  unfolding left_to_pay
  pay_first s first =
      ap (total (price power))
      (sym
      (gaps_from_first (holds_job (at rows)) (length rows) s (next_within first (omega arith))
      (λ u h. on (holds_job (at rows) u) (λ e. absurd (first.empty_before u h (omega arith) e)) (λ e. e)) first.job))

-- the walk stands at a slot: what was paid and what is left make the whole
pub record Paying (power : Power) (rows : List ℕ) (cost empty slot : ℕ) : Type 0 where
  pub within : slot ≤ length rows
  pub small : cost + empty ≤ slot
  pub sum : cost + left_to_pay power rows empty slot ≡ rows_cost power rows

module _ {power : Power} {rows : List ℕ} where
  pub paying_first : {s : ℕ} → NextJob rows 0 s → Paying power rows 0 0 s
  paying_first {s} first =
      record { within = next_within first (omega arith); small = omega arith; sum = omega (arith, pay_first power rows s first) }

  pub paying_empty : {cost empty slot empty-after : ℕ} → Paying power rows cost empty slot → slot < length rows → at rows slot ≡ 0
      → empty-after ≡ empty + 1 → Paying power rows cost empty-after (slot + 1)
  paying_empty {cost} {empty} {slot} p h none e =
      rw e
      record {
        within = omega arith;
        small = omega (arith, p.small);
        sum = omega (arith, p.sum, pay_empty power rows empty slot h (holds_job_false (at rows) slot none));
      }

  pub paying_job : {cost empty slot paid cost-after empty-after : ℕ} → Paying power rows cost empty slot → slot < length rows
      → (at rows slot ≡ 0 → ⊥) → paid ≡ price power empty → cost-after ≡ cost + paid → empty-after ≡ 0 → Paying power rows cost-after empty-after (slot + 1)
  paying_job {cost} {empty} {slot} p h some paid new none =
      rw (new, none, paid)
      record {
        within = omega arith;
        small = omega (arith, p.small, price_at_most_length power empty);
        sum = omega (arith, p.sum, pay_job power rows empty slot h (holds_job_true (at rows) slot some));
      }

  pub paying_end : {cost empty slot : ℕ} → Paying power rows cost empty slot → length rows ≤ slot → cost ≡ rows_cost power rows
  paying_end {cost} {empty} {slot} p h = omega (arith, p.sum, pay_end power rows empty slot h)

-- the walk over the day's slots pays what the plan costs
pub rows_cost_day : (day : Day) {n slots : ℕ} {start : Plan} {rows : List ℕ} → slots ≡ day.slots → day.slots ≤ most_slots
    → RowsBySlot n start rows → rows_cost day.power (take slots rows) ≡ cost day n start
unfolding cost
rows_cost_day day {n} {slots} {start} {rows} all within r =
    rw (all, (rows_cut r day.slots within).long)
    (ap (total (price day.power))
    (gaps_same (holds_job (at (take day.slots rows))) (taken n start) day.slots 0
    (λ u h. holds_taken r day.slots u within (omega arith))))
