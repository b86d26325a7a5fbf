use Rattle.chaskuri.proofs.CopyPromises.{list_crowded}
use Rattle.chaskuri.proofs.chaskuri_crowded_span.Goals as goal

pub returns : goal.returns
returns c = rw c.from.ensures (list_crowded c.args.jobs.now c.args.slots _ (rw (c.releases.ensures, c.deadlines.ensures, c.copy_out-rows.ensures) at c.crowded_span.ensures))
