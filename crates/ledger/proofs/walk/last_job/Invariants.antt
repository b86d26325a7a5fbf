-- `ledger::walk::last_job` meets its contract. Assumes nothing.
use Prim.Native.Nat.{ℕ, ◌≤◌, ◌<◌}
use Rattle.day.specs.Windows.{at}
use Rattle.ledger.specs.Fills.{Empty}
use Rattle.ledger.proofs.walk.last_job.Given as goal

abbrev pub invariant-loop-last : goal.invariant-loop-last
invariant-loop-last l = (u : ℕ) → l.last ≤ u → u < l.slot → Empty (at l.rows) u
