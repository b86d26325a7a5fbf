-- `engine::NextJob::add_splits` meets its contract: the sums are the least over the splits passed. Assumes nothing.
use Rattle.engine.specs.steps.OneMore.{more_in, one_job}
use Rattle.engine.proofs.Sums.{Sums}
use Rattle.engine.proofs.NextJob.add_splits.Given as goal

abbrev pub invariant-loop-split : goal.invariant-loop-split
invariant-loop-split l = Sums (one_job (more_in l.self) l.table) l.self.frame.shape.points l.from l.split l.initial.sums l.sums
