-- `crowd::Rows::ends_from` meets its contract. Assumes nothing.
use Rattle.day.specs.Windows.{windows}
use Rattle.crowd.specs.steps.Ends.{Ends}
use Rattle.crowd.proofs.Rows.ends_from.Given as goal

abbrev pub invariant-loop-row : goal.invariant-loop-row
invariant-loop-row l = Ends (windows l.self.releases.now l.self.deadlines.now) l.begin l.row l.ends
