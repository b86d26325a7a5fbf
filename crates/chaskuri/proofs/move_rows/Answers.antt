use mathlib.Core.Path.{sym, refl}
use mir.Syntax.{w16}
use mir.ValLaws.{to_z-of_z}
use lib.Seq.{length-take-le}
use Rattle.checks.proofs.Refused.{refused_not_done, given_back}
use Rattle.rows.proofs.Copied.{rows_fit}
use Rattle.chaskuri.proofs.PutPromises.{list_moved, list_not_moved}
use Rattle.chaskuri.proofs.move_rows.Goals as goal

pub slice_bounds-releases-end : goal.slice_bounds-releases-end
slice_bounds-releases-end c = (rows_fit 0 c.args.jobs.now c.copy_out-count.ensures).releases

pub slice_bounds-move_list-end : goal.slice_bounds-move_list-end
slice_bounds-move_list-end c = sym (length-take-le _ _ (rows_fit 0 c.args.jobs.now c.copy_out-count.ensures).releases)

pub slice_bounds-deadlines-end : goal.slice_bounds-deadlines-end
slice_bounds-deadlines-end c = (rows_fit 0 c.args.jobs.now c.copy_out-count.ensures).deadlines

pub slice_bounds-move_list-end-2 : goal.slice_bounds-move_list-end-2
slice_bounds-move_list-end-2 c = sym (length-take-le _ _ (rows_fit 0 c.args.jobs.now c.copy_out-count.ensures).deadlines)

pub returns-in_err-move_list : goal.returns-in_err-move_list
returns-in_err-move_list c =
    rw (given_back c.from_residual.result c.from_residual.ensures.1)
    (list_not_moved c.args.jobs.now (to_z-of_z w16 c.args.by c.ranges.by) c.copy_out-count.ensures c.in_err-move_list.ensures (refused_not_done _))

pub returns : goal.returns
returns c =
    rw c.put_back.ensures
    (list_moved c.args.jobs.now (to_z-of_z w16 c.args.by c.ranges.by) c.copy_out-count.ensures c.in_ok-move_list.ensures refl)
