-- `streams::read::read_some` meets its contract: an interrupted read takes nothing. Assumes nothing.
use Rattle.std.proofs.Common.{rules}
use Rattle.streams.proofs.Repeats.{repeats_once, reads_after, ReadGives}
use Rattle.streams.proofs.read.read_some.Goals as goal

pub returns-clause-within : goal.returns-clause-within
returns-clause-within g c =
    (repeats_once _ (ReadGives g.R.Read.remaining) (λ a b came did. search rules) (reads_after g.R.Read.remaining) 0 _ _ _ c.repeated.ensures).1

pub returns-clause-bytes : goal.returns-clause-bytes
returns-clause-bytes g c =
    (repeats_once _ (ReadGives g.R.Read.remaining) (λ a b came did. search rules) (reads_after g.R.Read.remaining) 0 _ _ _ c.repeated.ensures).0
