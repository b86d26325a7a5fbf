-- Demand 2 holds of every run that keeps the planner's promise. Assumes nothing.
use Prim.Native.Nat.{◌≤◌, ◌<◌}
use mathlib.Core.Path.{◌≡◌, refl, ◌∙◌, ap}
use mathlib.Core.Logic.{inl, inr, ⊎_elim}
use native.Mathlib.Omega.{arith}
use lib.ListN.{length}
use Rattle.checks.specs.declared.Answer.{Answer}
use Rattle.day.specs.declared.Day.{Day}
use Rattle.day.specs.Windows.{Windows, at}
use Rattle.day.specs.Plan.{Plan, NoPlan}
use Rattle.day.specs.Gap.{cost}
use Rattle.day.specs.Best.{Best}
use Rattle.checks.specs.Answer.{says, done, short_table, no_plan}
use Rattle.checks.specs.Refusal.{stops, goes_on}
use Rattle.checks.specs.Check.{most_jobs, GoodRows, Accepted}
use Rattle.checks.specs.Planned.{Verdict, costs, none_proper}
use Rattle.day.proofs.Cases.{give}
use Rattle.checks.proofs.Refusal.{code_of, past, then_unique, avoids_clear, passed_clear, then_next, then_clear}
use Rattle.checks.proofs.Check.{accepted_clear}
use Rattle.day.proofs.Best.{best_unique, best_costs}
use Rattle.day.proofs.Changed.{changed_as}
use Rattle.checks.proofs.Planned.{best_held}
use Rattle.checks.proofs.Unique.{verdict_unique}
use Rattle.planner.specs.Table.{need}
use Rattle.planner.specs.Promise.{PlanCheck}
use Rattle.planner.proofs.Promise.{check_not_no_plan, plan_is_check, list_accepted, enough_starts, enough_table}
use Rattle.demands.specs.Run.{Run, list, Promised, Admitted, Served}
use Rattle.demands.specs.BestPlan.{BestGiven, NoneGiven, BestOrNone, GivesBestOrNone, AnswersAdmitted, SevenIfNone}

-- another list is accepted on the same day if its rows are good
pub accepted_too : {day : Day} {w v : Windows} → Accepted day w → GoodRows most_jobs day.slots v → Accepted day v
accepted_too old rows = record { some_slots = old.some_slots; slots = old.slots; wake = old.wake; rows = rows }

-- what is admitted is not refused
pub admitted_clear : (run : Run) → Admitted run → (b : Answer) → PlanCheck run.day (list run) run.starts run.table b → ⊥
admitted_clear run admitted =
    then_clear (accepted_clear admitted.accepted)
    (then_clear (λ b r. omega (arith, r.fault, admitted.room)) (λ b r. omega (arith, r.fault, admitted.table)))

module _ (run : Run) (promised : Promised run) where
  given_best : (p : Plan) → Best run.day (list run) p → run.answer ≡ says done (cost run.day (list run).count p) 0
      → BestGiven run
  given_best p best answer =
      give (code_of answer)
      (λ code.
      give (promised.planned code)
      (λ here.
      give (best_held here)
      (λ held.
      record {
        answer =
            answer ∙ ap (λ x. says done x 0) (best_costs run.day (list run) p (at run.starts_after) best held);
        best = held;
        only = λ q other. best_unique run.day (list run) (at run.starts_after) q held other;
        others = changed_as (λ i l. l) (λ i l. l) (λ i y l e. tt) here.filled;
      })))

  given_none : NoPlan (list run) → run.answer ≡ says no_plan 0 0 → NoneGiven run
  given_none none answer =
      record {
        answer = answer;
        none = none;
        starts = promised.unplanned (λ code. omega (arith, code_of answer));
      }

  -- a work table that is too short, where nothing else is refused
  pub short_given : Accepted run.day (list run) → (list run).count ≤ length run.starts
      → length run.table < need run.day.slots (list run).count → run.answer ≡ says short_table 0 0
  short_given accepted room short =
      then_unique (plan_is_check run.day (list run) run.starts run.table) (verdict_unique run.day (list run)) run.answer
      (says short_table 0 0) promised.answer
      (stops (goes_on (accepted_clear accepted) (past (λ h. omega arith) (record { fault = short; says = refl }))))

  given : Verdict run.day (list run) run.answer → BestOrNone run
  given (costs p best answer) = inl (given_best p best answer)
  given (none_proper none answer) = inr (given_none none answer)

pub best_or_none : GivesBestOrNone
best_or_none run served =
    given run served.promised (then_next (admitted_clear run served.admitted) run.answer served.promised.answer)

pub answers_admitted : AnswersAdmitted
answers_admitted run promised code =
    give
    (⊎_elim (passed_clear (plan_is_check run.day (list run) run.starts run.table) run.answer promised.answer)
    (avoids_clear (λ a p. check_not_no_plan run.day (list run) run.starts run.table a (stops p)) run.answer promised.answer)
    code)
    (λ clear.
    record {
      accepted = list_accepted run.day (list run) run.starts run.table clear;
      room = enough_starts run.day (list run) run.starts run.table clear;
      table = enough_table run.day (list run) run.starts run.table clear;
    })

-- code 0 comes with the best plan
pub done_best : (run : Run) → Served run → run.answer.code ≡ done → BestGiven run
done_best run served code =
    ⊎_elim (λ b. b) (λ n. absurd (omega (arith, code_of n.answer))) (best_or_none run served)

-- what is given, on a day that is the same
pub record GivenOn (day : Day) (run : Run) : Type 0 where
  pub answer : run.answer ≡ says done (cost day (list run).count (at run.starts_after)) 0
  pub best : Best day (list run) (at run.starts_after)

pub given_on : (day : Day) (run : Run) → run.day ≡ day → BestGiven run → GivenOn day run
given_on day run same given = rw (← same) (record { answer = given.answer; best = given.best })

pub seven_exactly : SevenIfNone
seven_exactly run served =
    ⊎_elim
    (λ b.
    record {
      only_if = λ code. absurd (omega (arith, code_of b.answer));
      whenever = λ none. absurd (none (at run.starts_after) b.best.proper);
    })
    (λ n. record { only_if = λ code. n.none; whenever = λ none. code_of n.answer })
    (best_or_none run served)
