-- `numbered::by_number` meets its contract: the lower numbers are done. Assumes nothing.
use Rattle.numbered.specs.InOrder.{InOrder}
use Rattle.numbered.proofs.by_number.Given as goal

abbrev pub invariant-loop-number : goal.invariant-loop-number
invariant-loop-number l = InOrder l.rows l.order l.number l.to
