-- `claim::slots::rows_by_slot` meets its contract. Assumes nothing.
use Rattle.day.specs.Windows.{at}
use Rattle.claim.specs.Rows.{RowsBySlot}
use Rattle.claim.proofs.slots.rows_by_slot.Given as goal

abbrev pub invariant-loop-row : goal.invariant-loop-row
invariant-loop-row l = RowsBySlot l.row (at l.starts) l.rows
