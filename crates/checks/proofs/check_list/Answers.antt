-- `checks::check_list` meets its contract. Assumes nothing.
use Rattle.checks.proofs.Refusal.{then_group}
use Rattle.checks.proofs.Refused.{then_err, then_ok, given_back}
use Rattle.checks.proofs.Check.{slots_is_check, power_is_check}
use Rattle.checks.proofs.check_list.Goals as goal

pub returns-in_err-check_slots : goal.returns-in_err-check_slots
returns-in_err-check_slots c =
    rw (given_back c.from_residual.result c.from_residual.ensures.1)
    (then_group _ (then_err _ c.in_err-check_slots.ensures))

pub returns-in_err-check_power : goal.returns-in_err-check_power
returns-in_err-check_power c =
    rw (given_back c.from_residual-in_err-check_power.result c.from_residual-in_err-check_power.ensures.1)
    (then_group _
    (then_ok slots_is_check c.in_ok-check_slots.ensures _ (then_group _ (then_err _ c.in_err-check_power.ensures))))

pub returns : goal.returns
returns c =
    then_group _
    (then_ok slots_is_check c.in_ok-check_slots.ensures _
    (then_group _ (then_ok power_is_check c.in_ok-check_power.ensures _ c.check_jobs.ensures)))
