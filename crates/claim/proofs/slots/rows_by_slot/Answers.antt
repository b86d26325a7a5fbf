-- `claim::slots::rows_by_slot` meets its contract. Assumes nothing.
use native.Mathlib.Omega.{arith}
use Rattle.claim.proofs.Rows.{rows_none, rows_next}
use Rattle.claim.proofs.slots.rows_by_slot.Goals as goal

pub loop-row-init : goal.loop-row-init
loop-row-init c = rows_none _

pub loop-row-preserved : goal.loop-row-preserved
loop-row-preserved c =
    rows_next _ _ _ _ c.from.ensures (omega (arith, c.from.ensures, c.requires.by_index _ c.loop-row-test.true)) c.loop-row.invariant
