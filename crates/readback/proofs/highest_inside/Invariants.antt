-- `readback::highest_inside` meets its contract: the jobs from `job` on are not released in the span. Assumes nothing.
use Prim.Native.Nat.{ℕ, ◌≤◌, ◌<◌}
use Rattle.day.specs.Windows.{at}
use Rattle.readback.proofs.highest_inside.Given as goal

abbrev pub invariant-loop-job : goal.invariant-loop-job
invariant-loop-job l = (i : ℕ) → l.job ≤ i → i < l.count → (l.span.from ≤ at l.rel i) × (at l.rel i < l.span.to) → ⊥
