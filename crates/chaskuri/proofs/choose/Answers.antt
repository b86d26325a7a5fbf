use Rattle.chaskuri.proofs.CopyPromises.{list_handed}
use Rattle.chaskuri.proofs.choose.Goals as goal

pub returns : goal.returns
returns c = list_handed c.args.jobs.now c.args.day c.args.own c.args.server c.choose.result (rw (c.releases.ensures, c.deadlines.ensures, c.copy_out-rows.ensures) at c.choose.ensures)
