-- The rows below `row` are cut. Assumes nothing.
use Rattle.cutlist.specs.CutRows.{HoldsCut}
use Rattle.cutlist.proofs.cut_rows.Given as goal

abbrev pub invariant-loop-row : goal.invariant-loop-row
invariant-loop-row l = HoldsCut l.slot l.row l.releases l.deadlines l.starts l.cut
