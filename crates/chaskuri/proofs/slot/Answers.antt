use Rattle.chaskuri.proofs.CopyPromises.{list_shown}
use Rattle.chaskuri.proofs.slot.Goals as goal

pub returns : goal.returns
returns c = rw c.from.ensures (list_shown c.args.jobs.now c.args.day c.args.starts.now c.args.asked _ (rw (c.releases.ensures, c.deadlines.ensures, c.copy_out-rows.ensures) at c.slot.ensures))
