-- `choice::which` meets its contract. Assumes nothing.
use mathlib.Core.Path.{refl}
use Rattle.day.specs.Windows.{windows}
use Rattle.checks.proofs.Refusal.{passed_clear, group_next}
use Rattle.checks.proofs.Refused.{then_ok}
use Rattle.checks.proofs.Check.{list_is_check}
use Rattle.choice.proofs.Choice.{compared_named}
use Rattle.choice.proofs.which.Goals as goal

pub returns : goal.returns
returns c =
    let listed = c.in_ok-check_list.ensures in
    let clear = passed_clear list_is_check _ listed refl in
    then_ok list_is_check listed _
    (compared_named c.args.day (windows c.args.releases.now c.args.deadlines.now) c.args.own.now c.args.server.now _ _ _
    (group_next clear _ c.price-own_price.ensures) (group_next clear _ c.price-server_price.ensures) c.cheaper.ensures)
