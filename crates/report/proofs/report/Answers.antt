-- `report::report` meets its contract: what planning gives is printed. Assumes nothing.
use Rattle.day.specs.Windows.{at}
use Rattle.checks.specs.Answer.{refused}
use Rattle.ledger.specs.Promise.{no_counts}
use Rattle.checks.proofs.Refused.{refused_not_done}
use Rattle.report.proofs.Unique.{all_rows_shown, refusal_shown}
use Rattle.report.proofs.report.Goals as goal

pub returns-in-Ok : goal.returns-in-Ok
returns-in-Ok c =
    record {
      outcome = _;
      starts = _;
      reported = c.in-Ok.ensures;
      prints = rw (← all_rows_shown _ _ _ c.in-Ok.ensures) (rw c.done.ensures at c.render.ensures);
    }

pub returns-in-Err : goal.returns-in-Err
returns-in-Err c =
    record {
      outcome = _;
      starts = _;
      reported = c.in-Err.ensures;
      prints = rw (refusal_shown (refused c.in-Err.refusal) 0 (at c.plan_input.new.starts) no_counts c.default.result (refused_not_done c.in-Err.refusal)) (rw c.from.ensures at c.render-in-Err.ensures);
    }
