-- `crowd::Rows::shortest` meets its contract. Assumes nothing.
use Rattle.day.specs.Windows.{windows}
use Rattle.crowd.proofs.Search.{Searched}
use Rattle.crowd.proofs.Rows.shortest.Given as goal

abbrev pub invariant-loop-begin : goal.invariant-loop-begin
invariant-loop-begin l = Searched l.slots (windows l.self.releases.now l.self.deadlines.now) l.begin l.reach l.shown
