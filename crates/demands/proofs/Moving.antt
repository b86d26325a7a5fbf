-- A moved list is accepted, keeps code and cost, and its starts move along. Assumes nothing.
use Prim.Native.Nat.{ℕ, ◌≤◌, ◌<◌}
use mathlib.Core.Path.{sym, ◌∙◌, ap}
use mathlib.Core.Logic.{inl, inr}
use native.Mathlib.Omega.{arith}
use lib.IntN.{ℤ}
use Rattle.day.specs.Windows.{at}
use Rattle.checks.specs.Answer.{says, done}
use Rattle.day.specs.Moved.{Moved}
use Rattle.checks.specs.Check.{Accepted}
use Rattle.day.proofs.Cases.{give}
use Rattle.checks.proofs.Refusal.{code_of}
use Rattle.day.proofs.Moved.{moved_no_plan, no_plan_moved, moved_starts, moved_best_cost}
use Rattle.moving.proofs.Moving.{acceptable, windows_moved}
use Rattle.moving.proofs.Unique.{shifts_unique}
use Rattle.demands.specs.Run.{Run, list, Served}
use Rattle.demands.specs.BestPlan.{BestOrNone}
use Rattle.demands.specs.Moving.{Moves, MovedAccepted, MovedAnswer, MovingKeeps}
use Rattle.demands.proofs.BestPlan.{accepted_too, best_or_none, given_on}

module _ (by : ℤ) (run other : Run) (moves : Moves by run other) where
  moved : Moved by (list run) (list other)
  moved = windows_moved (moves.promised.accepted moves.accepted)

  stays_there : (i : ℕ) → i < (list other).count
      → ((list other).release i < (list other).deadline i) × ((list other).deadline i ≤ run.day.slots)
  stays_there i l =
      give {A = i < (list run).count} (omega (arith, moved.count))
      (λ h.
      give ((acceptable {by = by} moves.answer moves.promised.answer moves.accepted).stay i h)
      (λ s.
      omega (
        arith,
        s.order,
        s.inside,
        shifts_unique by ((list run).release i) s.begin ((list other).release i) s.release_moved (moved.release i h),
        shifts_unique by ((list run).deadline i) s.end ((list other).deadline i) s.deadline_moved (moved.deadline i h),
      )))

  accepted_there : Accepted run.day (list run) → Accepted run.day (list other)
  accepted_there old =
      accepted_too old
      (record {
        count = omega (arith, old.rows.count, moved.count);
        window = λ i l. (stays_there i l).0;
        in_day = λ i l. (stays_there i l).1;
      })

pub moved_accepted : MovedAccepted
moved_accepted by run other moves old = rw moves.day (accepted_there by run other moves old)

module _ (by : ℤ) (run other : Run) (moves : Moves by run other) (old : Served run) where
  new_in_day : (i : ℕ) → i < (list run).count → (list other).deadline i ≤ run.day.slots
  new_in_day i l = (stays_there by run other moves i (omega (arith, (moved by run other moves).count))).1

  abbrev same_rows : Moved by (list run) (list other)
  same_rows = moved by run other moves

  keeps : BestOrNone run → BestOrNone other → MovedAnswer by run other
  keeps (inl b) (inl c) =
      give (given_on run.day other moves.day c)
      (λ d.
      record {
        answer =
            d.answer
            ∙ ap (λ x. says done x 0)
            (sym (moved_best_cost run.day by (list run) (list other) same_rows old.admitted.accepted.rows.in_day new_in_day
            (at run.starts_after) (at other.starts_after) b.best d.best))
            ∙ sym b.answer;
        starts = λ code.
            moved_starts run.day by (list run) (list other) same_rows old.admitted.accepted.rows.in_day new_in_day
            (at run.starts_after) (at other.starts_after) b.best d.best;
      })
  keeps (inl b) (inr n) =
      absurd (no_plan_moved by (list run) (list other) same_rows n.none (at run.starts_after) b.best.proper)
  keeps (inr n) (inl c) =
      absurd (moved_no_plan by (list run) (list other) same_rows n.none (at other.starts_after) c.best.proper)
  keeps (inr n) (inr m) =
      record {
        answer = m.answer ∙ sym n.answer;
        starts = λ code. absurd (omega (arith, code_of n.answer));
      }

pub moving_keeps : MovingKeeps
moving_keeps by run other moves old new = keeps by run other moves old (best_or_none run old) (best_or_none other new)
