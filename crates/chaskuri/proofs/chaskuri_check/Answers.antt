use Rattle.chaskuri.proofs.CopyPromises.{list_checked}
use Rattle.chaskuri.proofs.chaskuri_check.Goals as goal

pub returns : goal.returns
returns c = rw c.from.ensures (list_checked c.args.jobs.now c.args.slots _ (rw (c.releases.ensures, c.deadlines.ensures, c.copy_out-rows.ensures) at c.check_times.ensures))
