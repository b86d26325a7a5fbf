-- `report::plan_file` meets its contract. Assumes nothing.
use mathlib.Core.Path.{refl, sym}
use lib.Seq.{length-take-le}
use Rattle.checks.proofs.Refused.{refused_not_done, given_back}
use Rattle.report.proofs.File.{file_not_read, read_room, read_reported}
use Rattle.report.proofs.plan_file.Goals as goal

pub returns-in_err-header : goal.returns-in_err-header
returns-in_err-header c =
    rw (given_back c.from_residual.result c.from_residual.ensures.1)
    (file_not_read _ _ _ _ c.in_err-header.ensures.answer (refused_not_done _))

pub slice_bounds-releases-end : goal.slice_bounds-releases-end
slice_bounds-releases-end c = (read_room c.in_ok-header.ensures refl refl refl _ c.from-count.ensures).0

pub slice_bounds-plan_rows-end : goal.slice_bounds-plan_rows-end
slice_bounds-plan_rows-end c = sym (length-take-le _ _ (read_room c.in_ok-header.ensures refl refl refl _ c.from-count.ensures).0)

pub slice_bounds-deadlines-end : goal.slice_bounds-deadlines-end
slice_bounds-deadlines-end c = (read_room c.in_ok-header.ensures refl refl refl _ c.from-count.ensures).1

pub slice_bounds-plan_rows-end-2 : goal.slice_bounds-plan_rows-end-2
slice_bounds-plan_rows-end-2 c = sym (length-take-le _ _ (read_room c.in_ok-header.ensures refl refl refl _ c.from-count.ensures).1)

pub returns : goal.returns
returns c = read_reported c.in_ok-header.ensures refl refl refl _ c.from-count.ensures c.plan_rows.ensures
