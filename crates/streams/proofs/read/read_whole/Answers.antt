-- `streams::read::read_whole` meets its contract: each turn adds the bytes that come next, or is the last. Assumes nothing.
use Rattle.std.proofs.Common.{rules, length, ◌-◌}
use borrow.Rule.Slice.PartMut.{post_of}
use Rattle.streams.proofs.Known.{reads_on}
use Rattle.streams.proofs.read.read_whole.Goals as goal

pub loop-at-preserved : goal.loop-at-preserved
loop-at-preserved g c =
    record {
      within = search rules;
      read =
          reads_on (g.R.Read.remaining c.args.source.now) (g.R.Read.remaining c.loop-at.source) (g.R.Read.remaining c.read_some.new.source) c.loop-at.at
          c.in-Some.next c.read_some.result c.loop-at.file c.read_some.new.room (post_of c.loop-at.at (length c.loop-at.file - c.loop-at.at) c.loop-at.file)
          c.loop-at.invariant.within (search rules) c.read_some.ensures.within c.loop-at.invariant.read c.read_some.ensures.bytes;
    }
