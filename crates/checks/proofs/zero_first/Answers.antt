-- `checks::zero_first` meets its contract. Assumes nothing.
use Rattle.std.proofs.Common.{rules, ◌≡◌, replicate}
use Rattle.checks.proofs.Zero.{zeroed_before}
use Rattle.checks.proofs.zero_first.Goals as goal

pub returns : goal.returns
returns c =
    let zeros : c.fill.new.self ≡ replicate c.min-end.result 0 = search rules in
    rw zeros (zeroed_before _ _ _ c.min-end.ensures)
