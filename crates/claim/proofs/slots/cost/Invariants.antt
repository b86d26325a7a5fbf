-- `claim::slots::cost` meets its contract. Assumes nothing.
use Prim.Native.Nat.{◌+◌}
use Rattle.claim.proofs.Paying.{Paying}
use Rattle.claim.proofs.slots.cost.Given as goal

abbrev pub invariant-loop-row : goal.invariant-loop-row
invariant-loop-row l = Paying l.power l.rows l.cost l.empty (l.first + l.row-index)
