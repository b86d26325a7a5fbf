-- The loop of `streams::read::read_whole`: what was read so far is what came first. Assumes nothing.
use Rattle.std.proofs.Common.{◌-◌, ◌≤◌, length, take}
use Rattle.std.specs.Io.KnownBytes.{Consumes}
use Rattle.streams.proofs.read.read_whole.Given as goal

abbrev pub invariant-loop-at : goal.invariant-loop-at
invariant-loop-at g l = record {
  within : l.at ≤ length l.file;
  read : Consumes (g.R.Read.remaining l.initial.source) (g.R.Read.remaining l.source) (take l.at l.file);
}

abbrev pub decreases-loop-at : goal.decreases-loop-at
decreases-loop-at g l = length l.initial.file - l.at
