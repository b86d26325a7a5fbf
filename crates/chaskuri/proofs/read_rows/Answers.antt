use mathlib.Core.Path.{refl}
use lib.ListN.{length}
use Rattle.checks.proofs.Refused.{refused_not_done, given_back}
use Rattle.chaskuri.proofs.PutPromises.{read_columns, list_read, list_not_read}
use Rattle.chaskuri.proofs.read_rows.Goals as goal

pub returns-in_err-header : goal.returns-in_err-header
returns-in_err-header c =
    rw (given_back c.from_residual.result c.from_residual.ensures.1)
    (list_not_read c.args.jobs.now
    (read_columns (length c.args.jobs.now) c.rows_put-places.ensures c.read.auto.releases c.read.auto.deadlines c.in_err-header.ensures) (refused_not_done _))

pub returns : goal.returns
returns c =
    rw c.put_back.ensures
    (list_read c.args.jobs.now _ c.from-count.ensures
    (read_columns (length c.args.jobs.now) c.rows_put-places.ensures c.read.auto.releases c.read.auto.deadlines c.in_ok-header.ensures) refl)
