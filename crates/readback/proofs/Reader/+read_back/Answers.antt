-- `readback::Reader::read_back` meets its contract. It calls itself with fewer jobs. Assumes nothing.
use mathlib.Core.Path.{◌∙◌}
use native.Mathlib.Omega.{arith}
use lib.ListN.{length-set}
use Rattle.readback.proofs.StartsRead.{asks_fewer, back_found}
use Rattle.readback.proofs.Reader.+read_back.Goals as goal

pub split_of-split-requires-clause-read_back_asks : goal.split_of-split-requires-clause-read_back_asks
split_of-split-requires-clause-read_back_asks t c = asks_fewer c.requires.read_back_asks _ (omega (arith, c.in-Some.ensures.below))

pub read_back-requires : goal.read_back-requires
read_back-requires t c = (
  omega (arith, c.in-Some.ensures.below),
  (
    asks_fewer c.requires.read_back_asks _ (omega (arith, c.in-Some.ensures.below)),
    (
      (omega (arith, c.split_of-split.ensures.inside), simp length-set (omega (arith, c.in-Some.ensures.below))),
      c.split_of-split.ensures.sides.left,
    ),
  ),
)

pub read_back-requires-2 : goal.read_back-requires-2
read_back-requires-2 t c = (
  omega (arith, c.in-Some.ensures.below),
  (
    asks_fewer c.requires.read_back_asks _ (omega (arith, c.in-Some.ensures.below)),
    (
      (c.requires.to_lt_points.0, omega (arith, c.in-Some.ensures.below, simp length-set at c.read_back.ensures.0)),
      c.split_of-split.ensures.sides.right,
    ),
  ),
)

pub returns : goal.returns
returns t c = (
  c.read_back-2.ensures.0 ∙ c.read_back.ensures.0 ∙ simp length-set,
  λ P holds. back_found holds c.in-Some.job c.in-Some.ensures.below
      (λ i h. c.in-Some.ensures.higher i (omega arith)) c.in-Some.ensures.inside c.args.value c.requires.value_value
      c.split_of-split.result.point c.split_of-split.ensures.best _ _ _ (omega (arith, c.in-Some.ensures.below))
      (c.read_back.ensures.1 P) (c.read_back-2.ensures.1 P),
)
