-- `planner::check_plan` meets its contract: each check that refuses answers. Assumes nothing.
use mathlib.Core.Path.{refl}
use native.Mathlib.Omega.{arith}
use Rattle.checks.specs.declared.Answer.{Answer}
use Rattle.day.specs.Windows.{windows}
use Rattle.checks.specs.Refusal.{goes_on}
use Rattle.checks.specs.Check.{ListCheck}
use Rattle.checks.proofs.Refusal.{then_clear, passed_clear}
use Rattle.checks.proofs.Check.{list_is_check, clear_accepted}
use Rattle.planner.proofs.check_plan.Goals as goal
use Rattle.planner.proofs.check_plan.Goals.{In_ok-check_list}

-- codes 1 to 4 refuse nothing
clear : (c : In_ok-check_list) → (b : Answer) → ListCheck c.args.day (windows c.args.releases.now c.args.deadlines.now) b → ⊥
clear c = passed_clear list_is_check _ c.in_ok-check_list.ensures refl

pub need_of-needed-requires : goal.need_of-needed-requires
need_of-needed-requires c =
    omega (arith, (clear_accepted (clear (goal.at.need_of-needed-requires c).In_ok-check_list)).rows.count)

pub returns : goal.returns
returns c = λ s t p q.
    goes_on
    (then_clear (clear (goal.at.returns c).In_ok-check_list) (then_clear (λ b r. omega (arith, r.fault)) (λ b r. omega (arith, r.fault))))
    refl
