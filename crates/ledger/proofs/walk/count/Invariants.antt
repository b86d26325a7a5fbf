-- `ledger::walk::count` meets its contract. Assumes nothing.
use Prim.Native.Nat.{◌+◌}
use lib.ListN.{length}
use Rattle.day.specs.Windows.{at}
use Rattle.day.specs.Gap.{asleep as sleeping}
use Rattle.ledger.proofs.Walked.{Walked}
use Rattle.ledger.proofs.walk.count.Given as goal

abbrev pub invariant-loop-row : goal.invariant-loop-row
invariant-loop-row l =
    Walked (sleeping l.power) (length l.rows) (at l.rows) l.first l.job l.awake l.asleep l.empty (l.first + l.row-index)
