-- `engine::Loan::fill` meets its contract: the levels up to `job` are filled. Assumes nothing.
use mathlib.Core.Path.{◌≡◌}
use Rattle.engine.specs.Lent.{lent_in}
use Rattle.engine.specs.Filled.{Filled}
use Rattle.engine.proofs.Loan.fill.Given as goal

abbrev pub invariant-loop-job : goal.invariant-loop-job
invariant-loop-job l = (l.sums ≡ l.initial.sums) × Filled (lent_in l.self) l.job l.initial.table l.table
