use Prim.Native.Nat.{ℕ}
use Rattle.std.proofs.lemmas.List.{drop-replicate}
use Rattle.fieldday.proofs.held.with_zeros.Goals as goal

pub returns : goal.returns
returns c = rw (c.copy_from_slice.ensures.after, drop-replicate {X = ℕ} c.args.count 40 0)
