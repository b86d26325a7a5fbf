-- `moving::first_leaving` meets its contract: at each turn no row below `row` would leave the day. Assumes nothing.
use Prim.Native.Nat.{ℕ, ◌<◌}
use Rattle.day.specs.Windows.{windows}
use Rattle.moving.specs.Moving.{LeavesDay}
use Rattle.moving.proofs.first_leaving.Given as goal

abbrev pub invariant-loop-row : goal.invariant-loop-row
invariant-loop-row l = (j : ℕ) → j < l.row → LeavesDay l.slots l.by (windows l.releases l.deadlines) j → ⊥
