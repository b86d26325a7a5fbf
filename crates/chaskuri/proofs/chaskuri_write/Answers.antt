use Rattle.chaskuri.proofs.CopyPromises.{list_written}
use Rattle.chaskuri.proofs.chaskuri_write.Goals as goal

pub returns : goal.returns
returns c = rw c.from.ensures (list_written c.args.jobs.now c.args.notes c.args.day c.args.file.now _ _ (rw (c.releases.ensures, c.deadlines.ensures, c.copy_out-rows.ensures) at c.write.ensures))
