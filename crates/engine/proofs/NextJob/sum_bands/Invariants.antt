-- `engine::NextJob::sum_bands` meets its contract: the bands below `from` are there. Assumes nothing.
use mathlib.Core.Path.{◌≡◌}
use Rattle.engine.specs.steps.OneMore.{more_in, BandsAdded}
use Rattle.engine.proofs.NextJob.sum_bands.Given as goal

abbrev pub invariant-loop-from : goal.invariant-loop-from
invariant-loop-from l = (l.sums ≡ l.initial.sums) × BandsAdded (more_in l.self) l.from l.initial.table l.table
