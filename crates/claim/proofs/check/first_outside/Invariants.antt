-- `claim::check::first_outside` meets its contract. The loop's invariant: no row below `row` starts outside its window. Assumes nothing.
use Prim.Native.Nat.{ℕ, ◌<◌}
use Rattle.day.specs.Windows.{windows}
use Rattle.claim.specs.Claim.{OutsideWindow}
use Rattle.claim.proofs.check.first_outside.Given as goal

abbrev pub invariant-loop-row : goal.invariant-loop-row
invariant-loop-row l = (k : ℕ) → k < l.row → OutsideWindow (windows l.releases l.deadlines) l.starts k → ⊥
