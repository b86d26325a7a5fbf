-- `streams::write::write_whole` meets its contract: each turn adds the bytes that come next, or is the last. Assumes nothing.
use Rattle.std.proofs.Common.{rules, length-take, length-drop}
use Rattle.streams.proofs.Known.{writes_on}
use Rattle.streams.proofs.write.write_whole.Goals as goal

pub loop-at-preserved : goal.loop-at-preserved
loop-at-preserved g c =
    record {
      within = search rules;
      written =
          writes_on (g.W.Write.contents c.args.target.now) (g.W.Write.contents c.loop-at.target) (g.W.Write.contents c.write_some.new.target) c.loop-at.at
          _ c.write_some.result c.args.text.now (search rules) (search (rules, length-take, length-drop)) c.loop-at.invariant.written
          c.write_some.ensures.bytes;
    }
