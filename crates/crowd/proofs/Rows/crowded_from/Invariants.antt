-- `crowd::Rows::crowded_from` meets its contract. Assumes nothing.
use Rattle.day.specs.Windows.{windows}
use Rattle.crowd.proofs.FromBegin.{WalkedTo}
use Rattle.crowd.proofs.Rows.crowded_from.Given as goal

abbrev pub invariant-loop-reached : goal.invariant-loop-reached
invariant-loop-reached l = WalkedTo (windows l.self.releases.now l.self.deadlines.now) l.begin l.reached l.jobs
