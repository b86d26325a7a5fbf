-- `numbered::write_out` meets its contract: the starts of the lower numbers are written. Assumes nothing.
use Rattle.day.specs.Windows.{at}
use Rattle.numbered.specs.InOrder.{Laid}
use Rattle.numbered.proofs.write_out.Given as goal

abbrev pub invariant-loop-number : goal.invariant-loop-number
invariant-loop-number l = Laid l.order l.number (at l.numbered) l.initial.starts l.starts
