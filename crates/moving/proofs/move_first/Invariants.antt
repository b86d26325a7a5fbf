-- `moving::move_first` meets its contract: at each turn the first numbers are moved. Assumes nothing.
use Rattle.moving.specs.Moving.{FirstMoved}
use Rattle.moving.proofs.move_first.Given as goal

abbrev pub invariant-loop-number : goal.invariant-loop-number
invariant-loop-number l = FirstMoved l.by l.number-index l.initial.number-items l.number-items
