-- Rows that the checks accept, put into number order: they are within the limits, and what is finished with them is planned. Assumes nothing.
use Prim.Native.Nat.{ℕ, ◌+◌, ◌<◌}
use mathlib.Core.Path.{◌≡◌, refl, sym}
use mathlib.Core.List.{List}
use native.Mathlib.Omega.{arith}
use lib.ListN.{length}
use Rattle.std.proofs.Common.{Option}
use Rattle.checks.specs.declared.Answer.{Answer}
use Rattle.day.specs.declared.Day.{Day}
use Rattle.day.specs.Windows.{Windows, at, windows}
use Rattle.day.specs.Number.{Numbered}
use Rattle.checks.specs.Check.{Accepted}
use Rattle.day.proofs.Bound.{cost_at_most_slots}
use Rattle.day.proofs.Number.{numbered_apart}
use Rattle.rule.specs.Span.{Problem}
use Rattle.rule.specs.Whole.{problem, Ready}
use Rattle.checks.specs.Zero.{zeroed}
use Rattle.planner.specs.declared.Found.{Found}
use Rattle.planner.specs.Table.{need}
use Rattle.checks.specs.Planned.{Planned}
use Rattle.checks.specs.steps.Never.{Never}
use Rattle.numbered.specs.InOrder.{InOrder}
use Rattle.planner.specs.steps.Jobs.{planner_none, RowsInOrder, WithinLimits, ProblemOf}
use Rattle.planner.specs.steps.Finished.{FindsPlan, Told}
use Rattle.planner.proofs.Finished.{finished_planned}

-- a list that the checks accept is one for the rule
ready_of : (day : Day) (w : Windows) (row : ℕ → ℕ) → Accepted day w → Numbered w.count w.deadline row → Ready day w row planner_none
ready_of day w row accepted numbered = record {
  numbered = numbered;
  window = accepted.rows.window;
  in_day = accepted.rows.in_day;
  above = λ p P. omega (arith, cost_at_most_slots day w.count p, accepted.slots, accepted.wake);
}

-- rows that the checks accept, in number order
module _ {day : Day} {releases deadlines order : List ℕ} (o : RowsInOrder day releases deadlines order) where
  abbrev rows : Windows
  rows = windows releases deadlines

  pub row_below_count : (k : ℕ) → k < length order → at order k < length releases
  row_below_count k h = omega (arith, o.numbered.within k h)

  -- no row has two numbers
  pub rows_apart : (k l : ℕ) → k < l → l < length order → at order k ≡ at order l → ⊥
  rows_apart k l h b q = omega (arith, numbered_apart (length order) (at deadlines) (at order) o.numbered k l (omega arith) b q)

  -- releases and deadlines are put into that order
  module _ (rel dead : List ℕ) (r : InOrder releases order (length order) rel) (d : InOrder deadlines order (length order) dead) where
    pub within_limits : WithinLimits day rel dead (length order)
    within_limits = record {
      slots = o.accepted.slots;
      wake = o.accepted.wake;
      few = omega (arith, o.accepted.rows.count);
      releases = omega (arith, o.all, o.accepted.rows.count, r.long);
      deadlines = omega (arith, o.all, o.accepted.rows.count, d.long);
      window = λ k h.
          omega (arith, r.inside k h, d.inside k h, o.accepted.rows.window (at order k) (row_below_count k h));
      in_day = λ k h. omega (arith, d.inside k h, o.accepted.rows.in_day (at order k) (row_below_count k h));
    }

    -- they are the rule's problem of the day
    problem_of : ProblemOf day rel dead (length order) (problem day rows (at order) planner_none)
    problem_of = record {
      price = λ s e. refl;
      allowed = λ t. refl;
      none = refl;
      release = λ k h. sym (r.inside k h);
      deadline = λ k h. sym (d.inside k h);
    }

    pub solved : (found : Option Found) (table table_after : List ℕ)
        → ((P : Problem) → ProblemOf day rel dead (length order) P → FindsPlan P (length order) (day.slots + 2) found)
        × (table_after ≡ zeroed (need day.slots (length order)) table)
        → (starts starts_after : List ℕ) (a : Answer) → Told day order found starts a starts_after
        → Planned Never (need day.slots (length releases)) day rows starts table a starts_after table_after
    solved found table table_after F starts starts_after a T =
        finished_planned day rows order starts table (ready_of day rows (at order) o.accepted (rw o.all at o.numbered)) o.all
        a starts_after table_after (rw o.all at F.1) found
        (rw o.all at (F.0 (problem day rows (at order) planner_none) problem_of)) T
