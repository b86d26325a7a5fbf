-- Two outcomes that keep the planner's promise are equal. Assumes nothing.
use Prim.Native.Nat.{ℕ}
use mathlib.Core.Path.{◌≡◌}
use mathlib.Core.List.{List}
use Rattle.checks.specs.declared.Answer.{Answer}
use Rattle.day.specs.declared.Day.{Day}
use Rattle.day.specs.Windows.{Windows}
use Rattle.checks.proofs.Unique.{planned_unique}
use Rattle.planner.specs.Table.{need}
use Rattle.planner.specs.Promise.{PlanCheck, PlanPromise}
use Rattle.planner.proofs.Promise.{plan_is_check}

pub plan_unique : (day : Day) (w : Windows) (starts table : List ℕ) (a b : Answer) (p t q u : List ℕ)
    → PlanPromise day w starts table a p t → PlanPromise day w starts table b q u → (a ≡ b) × (p ≡ q) × (t ≡ u)
plan_unique day w starts table =
    planned_unique (PlanCheck day w starts table) (need day.slots w.count) day w starts table
    (plan_is_check day w starts table)
