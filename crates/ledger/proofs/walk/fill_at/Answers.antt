-- `ledger::walk::fill_at` meets its contract. Assumes nothing.
use mathlib.Core.Path.{sym, ◌∙◌}
use native.Mathlib.Omega.{arith}
use Rattle.ledger.specs.Fills.{by_job, in_awake, in_asleep}
use Rattle.ledger.proofs.Run.{run_before, run_after, run_gap}
use Rattle.ledger.proofs.walk.fill_at.Goals as goal

pub returns-then-row-ne0 : goal.returns-then-row-ne0
returns-then-row-ne0 c = by_job c.if-row-ne0.true

pub returns-in_default : goal.returns-in_default
returns-in_default c = run_before c.if-row-ne0.false c.in_default.ensures

pub returns-in_default-next_job : goal.returns-in_default-next_job
returns-in_default-next_job c =
    run_after c.if-row-ne0.false c.in-Some.ensures c.in_default-next_job.ensures (omega arith)

pub returns-then-asleep : goal.returns-then-asleep
returns-then-asleep c =
    in_asleep _ (run_gap c.if-row-ne0.false c.in-Some.ensures c.in-Some-next_job.ensures.1 c.in-Some-next_job.ensures.0)
    (sym c.asleep.ensures ∙ c.if-asleep.true)

pub returns-else-asleep : goal.returns-else-asleep
returns-else-asleep c =
    in_awake _ (run_gap c.if-row-ne0.false c.in-Some.ensures c.in-Some-next_job.ensures.1 c.in-Some-next_job.ensures.0)
    (sym c.asleep.ensures ∙ c.if-asleep.false)
