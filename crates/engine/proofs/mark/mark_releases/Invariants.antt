-- `engine::mark::mark_releases` meets its contract: the jobs from `job` on have lowered the marks. Assumes nothing.
use Rattle.engine.specs.Marks.{MarkedBy}
use Rattle.engine.proofs.mark.mark_releases.Given as goal

abbrev pub invariant-loop-job : goal.invariant-loop-job
invariant-loop-job l = MarkedBy l.rel l.job l.count l.initial.marks l.marks
