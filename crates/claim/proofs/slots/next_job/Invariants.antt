-- `claim::slots::next_job` meets its contract. Assumes nothing.
use Prim.Native.Nat.{ℕ, ◌≤◌, ◌<◌}
use Rattle.claim.specs.Rows.{HoldsJob}
use Rattle.claim.proofs.slots.next_job.Given as goal

abbrev pub invariant-loop-slot : goal.invariant-loop-slot
invariant-loop-slot l = (k : ℕ) → k < l.slot → l.from ≤ k → HoldsJob l.rows k → ⊥
