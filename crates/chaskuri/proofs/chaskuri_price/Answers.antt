use Rattle.chaskuri.proofs.CopyPromises.{list_priced}
use Rattle.chaskuri.proofs.chaskuri_price.Goals as goal

pub returns : goal.returns
returns c = rw c.from.ensures (list_priced c.args.jobs.now c.args.day c.args.starts.now _ (rw (c.releases.ensures, c.deadlines.ensures, c.copy_out-rows.ensures) at c.price.ensures))
