-- `engine::Loan::fill` meets its contract: the levels up to `job` are filled. Assumes nothing.
use mathlib.Core.Path.{refl, ◌∙◌}
use native.Mathlib.Omega.{arith}
use Rattle.engine.specs.Lent.{lent_in}
use Rattle.engine.specs.steps.OneMore.{more_of, Fillable}
use Rattle.engine.proofs.Level.{fillable_as, added_as, filled_none, fillable_next, filled_more}
use Rattle.engine.proofs.Loan.fill.Goals as goal
use Rattle.engine.proofs.Loan.fill.Goals.{In-loop-job}

pub loop-job-init : goal.loop-job-init
loop-job-init c = (refl, filled_none _ _ c.requires.small)

able : (c : In-loop-job) → Fillable (more_of (lent_in c.args.self) c.loop-job.job) c.loop-job.table
able c = fillable_next c.requires.prepared c.requires.count_in_bounds.0 c.loop-job.invariant.1 (omega arith)

pub fill_level-requires-clause-fillable : goal.fill_level-requires-clause-fillable
fill_level-requires-clause-fillable c =
    fillable_as c.next_job.ensures (able (goal.at.fill_level-requires-clause-fillable c).In-loop-job)

pub loop-job-preserved : goal.loop-job-preserved
loop-job-preserved c =
    let l = c.loop-job in
    let level = c.fill_level.ensures in
    (level.0 ∙ l.invariant.0, filled_more _ l.job _ _ _ l.invariant.1 (able (goal.at.loop-job-preserved c).In-loop-job) (added_as c.next_job.ensures level.1))
