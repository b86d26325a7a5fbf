-- What the theorems on a crowded span ask is met by three rows (0,2), which the planner answers by 7, and by P8, which it plans. Assumes nothing.
use mathlib.Core.Path.{◌≡◌, refl}
use mathlib.Core.List.{[], ◌∷◌}
use lib.ListN.{replicate}
use Rattle.day.specs.Plan.{taken, NoPlan}
use Rattle.day.specs.Gap.{price, cost, total, gaps, gaps_since, ended}
use Rattle.checks.specs.Zero.{zeroed}
use Rattle.planner.specs.Table.{need}
use Rattle.crowd.specs.Promise.{CrowdPromise}
use Rattle.demands.specs.Run.{Run, list, Served}
use Rattle.demands.specs.ExamplesTable.{answer_of, day_with}
use Rattle.demands.specs.ExamplesOfCrowds.{span_with, no_span_with}
use Rattle.demands.proofs.Computed.{best_test, no_plan_test}
use Rattle.demands.proofs.ExamplesOfCrowds.{crowd_test}
use Rattle.demands.proofs.WhyNoPlan.{crowded_exactly, answers_why}
use Rattle.demands.proofs.Instances.{served_test, forward, mirrored_served}

abbrev three_rows : Run
three_rows =
    record {
      day = day_with 2 5;
      releases = replicate 3 0;
      deadlines = replicate 3 2;
      starts = replicate 3 9;
      table = replicate (need 2 3) 9;
      answer = answer_of 7 0 0;
      starts_after = replicate 3 9;
      table_after = replicate (need 2 3) 0;
    }

pub three_served : Served three_rows
unfolding need zeroed best_test no_plan_test cost price total gaps gaps_since ended taken
three_served = (served_test three_rows).shows refl

pub three_crowded : CrowdPromise 2 (list three_rows) (span_with 0 2 3)
three_crowded = (crowd_test 2 (list three_rows) [] (span_with 0 2 3)).shows refl

-- the theorem, of rows with r < d ≤ T that have no plan
pub three_none : NoPlan (list three_rows)
three_none =
    (crowded_exactly 40 2 (list three_rows) three_served.admitted.accepted.rows).exactly.1 (_, (three_crowded.shown refl).among)

-- 7 and a span; a plan and 21
pub three_answered : (span_with 0 2 3).answer ≡ answer_of 0 0 0
three_answered = (answers_why three_rows (span_with 0 2 3) three_served.promised three_crowded).seven refl

pub p8_answered : (no_span_with 21 0).answer ≡ answer_of 21 0 0
p8_answered =
    (answers_why forward (no_span_with 21 0) mirrored_served.0.promised
    ((crowd_test 10 (list forward) (0 ∷ 7 ∷ 9 ∷ []) (no_span_with 21 0)).shows refl)).planned refl
