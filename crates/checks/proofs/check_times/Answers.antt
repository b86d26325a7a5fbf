-- `checks::check_times` meets its contract. Assumes nothing.
use Rattle.checks.proofs.Refusal.{then_group}
use Rattle.checks.proofs.Refused.{then_err, then_ok, given_back}
use Rattle.checks.proofs.Check.{slots_is_check}
use Rattle.checks.proofs.check_times.Goals as goal

pub returns-in_err-check_slots : goal.returns-in_err-check_slots
returns-in_err-check_slots c =
    rw (given_back c.from_residual.result c.from_residual.ensures.1)
    (then_group _ (then_err _ c.in_err-check_slots.ensures))

pub returns : goal.returns
returns c = then_group _ (then_ok slots_is_check c.in_ok-check_slots.ensures _ c.check_jobs.ensures)
