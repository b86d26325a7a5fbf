use Rattle.chaskuri.proofs.CopyPromises.{list_planned}
use Rattle.chaskuri.proofs.chaskuri_plan.Goals as goal

pub returns : goal.returns
returns c = rw c.from.ensures (list_planned c.args.jobs.now c.args.day c.args.starts.now c.args.table.now _ _ _ (rw (c.releases.ensures, c.deadlines.ensures, c.copy_out-rows.ensures) at c.plan.ensures))
