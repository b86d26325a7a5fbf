use Rattle.chaskuri.proofs.CopyPromises.{list_opened}
use Rattle.chaskuri.proofs.chaskuri_open.Goals as goal

pub returns : goal.returns
returns c = list_opened c.args.jobs.now c.args.day c.args.starts.now c.open.result (rw (c.releases.ensures, c.deadlines.ensures, c.copy_out-rows.ensures) at c.open.ensures)
