-- Why there is no plan: the theorems hold. Assumes nothing.
use mathlib.Core.Path.{◌≡◌, refl}
use mathlib.Core.Logic.{◌⊎◌, inl, inr, ⊎_elim}
use native.Mathlib.Omega.{arith}
use Rattle.checks.specs.declared.Answer.{Answer}
use Rattle.day.specs.Plan.{SomePlan, NoPlan}
use Rattle.day.proofs.Cases.{give}
use Rattle.checks.specs.Answer.{says, done, no_plan, plan_exists}
use Rattle.checks.specs.Check.{TimesCheck}
use Rattle.checks.proofs.Refusal.{code_of, passed_unique, then_next, then_clear}
use Rattle.checks.proofs.Check.{times_is_check, times_clear}
use Rattle.crowd.specs.declared.CrowdAnswer.{CrowdAnswer}
use Rattle.crowd.specs.Promise.{CrowdPromise}
use Rattle.crowd.proofs.Exactly.{crowded_no_plan, crowded_somewhere, shown_or_plan}
use Rattle.crowd.proofs.Answered.{answer_plan_exists}
use Rattle.crowd.proofs.Unique.{shown_span_unique, crowd_is_check}
use Rattle.demands.specs.Run.{Run, list, Promised, Admitted, Served}
use Rattle.demands.specs.WhyNoPlan.{CrowdedExactly, AnswersWhy}
use Rattle.demands.proofs.BestPlan.{best_or_none, answers_admitted, done_best, seven_exactly}

pub crowded_exactly : CrowdedExactly
crowded_exactly limit slots w good =
    record {
      exactly = (
        λ none. ⊎_elim (λ s. (s.0, s.1.among)) (λ plan. absurd (none plan.0 plan.1)) (shown_or_plan good),
        λ c. crowded_no_plan slots w c.0 c.1,
      );
      either = ⊎_elim (λ s. inr (s.0, s.1.among)) inl (shown_or_plan good);
      shown = λ c. ⊎_elim (λ s. s) (λ plan. absurd (crowded_no_plan slots w c.0 c.1 plan.0 plan.1)) (shown_or_plan good);
      only = shown_span_unique;
      in_day = λ span c. (c.some, c.in_day);
      any_numbers = crowded_somewhere good;
    }

-- what the planner's checks take, codes 1, 3 and 4 do not refuse
admitted_times : (run : Run) → Admitted run → (b : Answer) → TimesCheck run.day.slots (list run) b → ⊥
admitted_times run admitted =
    give admitted.accepted (λ accepted. times_clear accepted.some_slots accepted.slots accepted.rows)

module _ (run : Run) (why : CrowdAnswer) (promised : Promised run) (p : CrowdPromise run.day.slots (list run) why) where
  served : (run.answer.code ≡ done) ⊎ (run.answer.code ≡ no_plan) → Served run
  served code = record { promised = promised; admitted = answers_admitted run promised code }

  none_shown : Admitted run → NoPlan (list run) → why.answer ≡ says done 0 0
  none_shown admitted none =
      then_next (then_clear (admitted_times run admitted) (λ b r. none r.fault.0 r.fault.1)) why.answer p.answer

  plan_refused : Admitted run → SomePlan (list run) → why.answer ≡ says plan_exists 0 0
  plan_refused admitted plan =
      passed_unique (crowd_is_check (list run) times_is_check) why.answer (says plan_exists 0 0) p.answer
      (answer_plan_exists {slots = run.day.slots} (admitted_times run admitted) (says plan_exists 0 0) refl plan).answer

pub answers_why : AnswersWhy
answers_why run why promised p =
    record {
      seven = λ code.
          give (served run why promised p (inr code))
          (λ s. none_shown run why promised p s.admitted ((seven_exactly run s).only_if code));
      planned = λ code.
          give (served run why promised p (inl code))
          (λ s. plan_refused run why promised p s.admitted (_, (done_best run s code).best.proper));
      only_seven = λ admitted code.
          (seven_exactly run (record { promised = promised; admitted = admitted })).whenever
          (crowded_no_plan run.day.slots (list run) why.span (p.shown code).among);
      only_planned = λ admitted code.
          ⊎_elim (λ best. code_of best.answer)
          (λ none. absurd (omega (arith, code, code_of (none_shown run why promised p admitted none.none))))
          (best_or_none run (record { promised = promised; admitted = admitted }));
    }
