-- The loop of `streams::call::repeated`: what the calls to come do ends what all of them did. Assumes nothing.
use Rattle.std.proofs.Common.{List, Result, ℕ}
use Rattle.std.specs.declared.io.Error.{Error}
use Rattle.streams.specs.steps.Repeats.{Gives, Repeats}
use Rattle.streams.proofs.call.repeated.Given as goal

abbrev pub invariant-loop : goal.invariant-loop
invariant-loop g l =
    (came : Result ℕ Error) (after : g.row.S.Denot × List ℕ) → Repeats (Gives g.F.Fn l.call) l.counter (l.stream, l.room) came after
    → Repeats (Gives g.F.Fn l.call) 0 (l.initial.stream, l.initial.room) came after
