-- `checks::first_bad_row` meets its contract. The loop's invariant: no row below `row` is bad. Assumes nothing.
use Rattle.std.proofs.Common.{ℕ, ◌<◌}
use Rattle.day.specs.Windows.{windows}
use Rattle.checks.specs.Check.{BadRow}
use Rattle.checks.proofs.first_bad_row.Given as goal

abbrev pub invariant-loop-row : goal.invariant-loop-row
invariant-loop-row l = (j : ℕ) → j < l.row → BadRow l.slots (windows l.releases l.deadlines) j → ⊥
