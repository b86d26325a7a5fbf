-- `numbered::without_ends` meets its contract: with no jobs nothing comes off. Assumes nothing.
use mathlib.Core.Path.{sym}
use native.Mathlib.Omega.{arith}
use Rattle.rule.proofs.Ends.{without_ends_none, without_ends_some}
use Rattle.numbered.proofs.without_ends.Goals as goal

pub returns-then-count-eq0 : goal.returns-then-count-eq0
returns-then-count-eq0 c = rw c.if-count-eq0.true (sym (without_ends_none c.args.day c.args.value))

pub returns : goal.returns
returns c =
    omega (
      arith,
      c.saturating_sub.ensures,
      without_ends_some c.args.day c.args.count c.args.value (omega arith),
    )
