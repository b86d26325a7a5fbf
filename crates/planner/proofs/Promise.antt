-- The laws of the promise: what the checks give that refuse nothing, and that each input is refused by one of them or by none. Assumes nothing.
use Prim.Native.Nat.{ℕ, ◌≤◌}
use mathlib.Core.List.{List}
use native.Mathlib.Omega.{arith}
use lib.ListN.{length}
use Rattle.checks.specs.declared.Answer.{Answer}
use Rattle.day.specs.declared.Day.{Day}
use Rattle.day.specs.Windows.{Windows}
use Rattle.checks.specs.Answer.{few_starts, short_table, no_plan}
use Rattle.checks.specs.Refusal.{◌then◌, Passed}
use Rattle.checks.specs.Check.{Accepted}
use Rattle.day.proofs.Cases.{on_le}
use Rattle.checks.proofs.Refusal.{Avoids, refuses_avoids, passed_avoids, then_avoids, IsCheck, no_fault, then_is_check, clear_first, clear_next, refuses_is_check}
use Rattle.checks.proofs.Check.{list_is_check, list_avoids, clear_accepted}
use Rattle.checks.proofs.Decided.{Decided, above_known, then_decided, refuses_decided, list_decided}
use Rattle.planner.specs.Table.{need}
use Rattle.planner.specs.Promise.{PlanCheck}

-- the checks never answer that there is no plan
pub check_not_no_plan : (day : Day) (w : Windows) (starts table : List ℕ) → Avoids no_plan (PlanCheck day w starts table then Passed)
check_not_no_plan day w starts table =
    then_avoids
    (then_avoids (list_avoids (omega arith)) (then_avoids (refuses_avoids (λ e. omega arith)) (refuses_avoids (λ e. omega arith))))
    (passed_avoids (λ e. omega arith))

-- what the checks have nothing to refuse of
module _ (day : Day) (w : Windows) (starts table : List ℕ) (clear : (b : Answer) → PlanCheck day w starts table b → ⊥) where
  pub list_accepted : Accepted day w
  list_accepted = clear_accepted (clear_first clear)

  pub enough_starts : w.count ≤ length starts
  enough_starts = on_le w.count (length starts) (λ h. h) (λ h. absurd (no_fault (clear_first (clear_next clear)) h))

  pub enough_table : need day.slots w.count ≤ length table
  enough_table =
      on_le (need day.slots w.count) (length table) (λ h. h) (λ h. absurd (no_fault (clear_next (clear_next clear)) h))

-- codes 1 to 6 are checks
pub plan_is_check : (day : Day) (w : Windows) (starts table : List ℕ) → IsCheck (PlanCheck day w starts table)
plan_is_check day w starts table =
    then_is_check list_is_check (then_is_check (refuses_is_check (λ e. omega arith)) (refuses_is_check (λ e. omega arith)))

-- and each input is refused by one of them, or by none
pub plan_decided : (day : Day) (w : Windows) (starts table : List ℕ) → Decided (PlanCheck day w starts table)
plan_decided day w starts table =
    then_decided (list_decided day w)
    (then_decided (refuses_decided few_starts (above_known (length starts) w.count))
    (refuses_decided short_table (above_known (length table) (need day.slots w.count))))
