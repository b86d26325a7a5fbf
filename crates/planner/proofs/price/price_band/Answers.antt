-- `planner::price::price_band` meets its contract: the places up to e are filled. Assumes nothing.
use mathlib.Core.Path.{◌≡◌}
use native.Mathlib.Omega.{arith}
use Rattle.engine.proofs.Along.{along_more}
use Rattle.planner.proofs.price.price_band.Goals as goal

pub loop-e-preserved : goal.loop-e-preserved
loop-e-preserved c =
    along_more (λ x h q. omega arith) (omega arith) (omega arith) c.far_price.ensures c.loop-e.invariant

pub returns : goal.returns
returns c =
    let e : c.loop-e.e ≡ c.args.points = omega arith in
    rw e at c.loop-e.invariant
