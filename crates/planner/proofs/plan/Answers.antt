-- `planner::plan` meets its contract: what the checks refuse is answered so, and what they accept is planned. Assumes nothing.
use mathlib.Core.Path.{refl, ◌∙◌}
use native.Mathlib.Omega.{arith}
use lib.ListN.{length, length-take, length-replicate}
use Rattle.checks.specs.declared.Answer.{Answer}
use Rattle.day.specs.Windows.{Windows, windows}
use Rattle.checks.specs.Check.{Accepted}
use Rattle.checks.proofs.Refusal.{passed_clear}
use Rattle.checks.proofs.Refused.{refused_not_done, then_err, given_back}
use Rattle.planner.specs.Table.{need}
use Rattle.planner.specs.Promise.{PlanCheck}
use Rattle.checks.proofs.Planned.{planned_refused, planned_checked}
use Rattle.planner.proofs.Promise.{check_not_no_plan, plan_is_check, list_accepted, enough_starts, enough_table}
use Rattle.planner.proofs.plan.Goals as goal
use Rattle.planner.proofs.plan.Goals.{In_ok-check_plan}

pub returns-in_err-check_plan : goal.returns-in_err-check_plan
returns-in_err-check_plan c =
    let a = c.args in
    let w = windows a.releases.now a.deadlines.now in
    let refused = c.in_err-check_plan.ensures a.starts.now a.table.now refl refl in
    rw (given_back c.from_residual.result c.from_residual.ensures.1)
    (planned_refused (PlanCheck a.day w a.starts.now a.table.now) (need a.day.slots (length a.releases.now)) a.day w a.starts.now a.table.now
    _ (then_err _ refused) (refused_not_done _) (check_not_no_plan a.day w a.starts.now a.table.now _ refused))

-- the checks refuse nothing
module _ (c : In_ok-check_plan) where
  abbrev w : Windows
  w = windows c.args.releases.now c.args.deadlines.now

  clear : (b : Answer) → PlanCheck c.args.day w c.args.starts.now c.args.table.now b → ⊥
  clear =
      passed_clear {Check = PlanCheck c.args.day w c.args.starts.now c.args.table.now}
      (plan_is_check c.args.day w c.args.starts.now c.args.table.now) _
      (c.in_ok-check_plan.ensures c.args.starts.now c.args.table.now refl refl) refl

  accepted : Accepted c.args.day w
  accepted = list_accepted c.args.day w c.args.starts.now c.args.table.now clear

pub slice_bounds-order-end : goal.slice_bounds-order-end
slice_bounds-order-end c = (accepted (goal.at.slice_bounds-order-end c).In_ok-check_plan).rows.count

pub slice_bounds-order-end-2 : goal.slice_bounds-order-end-2
slice_bounds-order-end-2 c =
    simp (length-take, length-replicate) (omega (arith, (accepted (goal.at.slice_bounds-order-end-2 c).In_ok-check_plan).rows.count))

pub solve-requires : goal.solve-requires
solve-requires c =
    let e = (goal.at.solve-requires c).In_ok-check_plan in
    let numbering = c.number_rows.ensures in
    record {
      rows_in_order = record {
        accepted = accepted e;
        all = numbering.places ∙ simp (length-take, length-replicate) (omega (arith, (accepted e).rows.count));
        numbered = rw numbering.places numbering.numbered;
      };
      releases_in_bounds = (
        enough_starts c.args.day (w e) c.args.starts.now c.args.table.now (clear e),
        enough_table c.args.day (w e) c.args.starts.now c.args.table.now (clear e),
      );
    }

pub returns : goal.returns
returns c =
    let e = (goal.at.returns c).In_ok-check_plan in
    planned_checked (PlanCheck c.args.day (w e) c.args.starts.now c.args.table.now) (need c.args.day.slots (length c.args.releases.now))
    c.args.day (w e) c.args.starts.now c.args.table.now _ _ _ (clear e) c.solve.ensures
