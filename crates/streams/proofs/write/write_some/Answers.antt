-- `streams::write::write_some` meets its contract: an interrupted write adds nothing. Assumes nothing.
use Rattle.std.proofs.Common.{rules}
use Rattle.streams.proofs.Repeats.{repeats_once, writes_after, WriteGives}
use Rattle.streams.proofs.write.write_some.Goals as goal

pub returns-clause-within : goal.returns-clause-within
returns-clause-within g c =
    (repeats_once _ (WriteGives g.W.Write.contents c.args.text.now) (λ a b came did. search rules) (writes_after g.W.Write.contents c.args.text.now) 0 _ _ _
    c.repeated.ensures).1

pub returns-clause-bytes : goal.returns-clause-bytes
returns-clause-bytes g c =
    (repeats_once _ (WriteGives g.W.Write.contents c.args.text.now) (λ a b came did. search rules) (writes_after g.W.Write.contents c.args.text.now) 0 _ _ _
    c.repeated.ensures).0
