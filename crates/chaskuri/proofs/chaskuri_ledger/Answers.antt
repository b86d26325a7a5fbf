use Rattle.chaskuri.proofs.CopyPromises.{list_ledgered}
use Rattle.chaskuri.proofs.chaskuri_ledger.Goals as goal

pub returns : goal.returns
returns c = rw c.from.ensures (list_ledgered c.args.jobs.now c.args.day c.args.starts.now _ (rw (c.releases.ensures, c.deadlines.ensures, c.copy_out-rows.ensures) at c.ledger.ensures))
