-- The mirrored list has the same answer. Assumes nothing.
use Prim.Native.Nat.{◌<◌}
use mathlib.Core.Path.{◌≡◌, refl, sym, ◌∙◌, ap}
use mathlib.Core.Logic.{inl, inr}
use native.Mathlib.Omega.{arith}
use Rattle.day.specs.Windows.{SameRows, at}
use Rattle.day.specs.Gap.{cost}
use Rattle.checks.specs.Answer.{says, done}
use Rattle.day.specs.Mirrored.{mirrored}
use Rattle.checks.specs.Check.{Accepted}
use Rattle.day.proofs.Cases.{give}
use Rattle.day.proofs.Plan.{same_rows_turned, no_plan_cong}
use Rattle.day.proofs.Best.{best_cong}
use Rattle.day.proofs.Mirrored.{mirrored_no_plan, no_plan_mirrored, mirrored_best_cost}
use Rattle.demands.specs.Run.{Run, list, Served}
use Rattle.demands.specs.BestPlan.{BestOrNone}
use Rattle.demands.specs.Mirrored.{Mirrors, MirroredAccepted, MirroredAnswer}
use Rattle.demands.proofs.BestPlan.{accepted_too, best_or_none, given_on}

accepted_opposite : (run other : Run) → Mirrors run other → Accepted run.day (list run) → Accepted run.day (list other)
accepted_opposite run other mirrors old =
    accepted_too old
    (record {
      count = omega (arith, old.rows.count, mirrors.rows.count);
      window = λ i l.
          give {A = i < (list run).count} (omega (arith, mirrors.rows.count))
          (λ h. omega (arith, mirrors.rows.release i h, mirrors.rows.deadline i h, old.rows.window i h, old.rows.in_day i h));
      in_day = λ i l. omega (arith, mirrors.rows.deadline i (omega (arith, mirrors.rows.count)));
    })

pub mirrored_accepted : MirroredAccepted
mirrored_accepted run other mirrors old = rw mirrors.day (accepted_opposite run other mirrors old)

module _ (run other : Run) (mirrors : Mirrors run other) (old : Served run) where
  alike : SameRows (list other) (mirrored run.day.slots (list run))
  alike = same_rows_turned _ _ mirrors.rows

  same : BestOrNone run → BestOrNone other → other.answer ≡ run.answer
  same (inl b) (inl c) =
      give (given_on run.day other mirrors.day c)
      (λ d.
      d.answer
      ∙ ap (λ n. says done (cost run.day n (at other.starts_after)) 0) mirrors.rows.count
      ∙ ap (λ x. says done x 0)
      (mirrored_best_cost run.day (list run) old.admitted.accepted.rows.window old.admitted.accepted.rows.in_day
      (at run.starts_after) (at other.starts_after) b.best
      (best_cong run.day (list other) (mirrored run.day.slots (list run)) (at other.starts_after) (at other.starts_after)
      alike (λ i l. refl) d.best))
      ∙ sym b.answer)
  same (inl b) (inr n) =
      absurd (no_plan_mirrored run.day (list run) old.admitted.accepted.rows.window old.admitted.accepted.rows.in_day
      (no_plan_cong (list other) (mirrored run.day.slots (list run)) alike n.none) (at run.starts_after) b.best.proper)
  same (inr n) (inl c) =
      absurd (no_plan_cong (mirrored run.day.slots (list run)) (list other) mirrors.rows
      (mirrored_no_plan run.day (list run) old.admitted.accepted.rows.window old.admitted.accepted.rows.in_day n.none)
      (at other.starts_after) c.best.proper)
  same (inr n) (inr m) = m.answer ∙ sym n.answer

pub mirrored_answer : MirroredAnswer
mirrored_answer run other mirrors old new = same run other mirrors old (best_or_none run old) (best_or_none other new)
