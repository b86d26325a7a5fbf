-- `engine::bands::unload` meets its contract: the places of lo up to e are moved. Assumes nothing.
use mathlib.Core.Path.{◌≡◌, refl}
use native.Mathlib.Omega.{arith}
use Rattle.engine.proofs.Along.{along_more}
use Rattle.engine.proofs.bands.unload.Goals as goal

pub loop-e-preserved : goal.loop-e-preserved
loop-e-preserved c =
    let l = c.loop-e in
    let unmoved = l.invariant.1.outside l.e (λ x t q. omega arith) in (
      along_more (λ x h q. omega arith) (omega arith) (omega arith) unmoved l.invariant.0,
      along_more (λ x h q. omega arith) (omega arith) (omega arith) refl l.invariant.1,
    )

pub returns : goal.returns
returns c =
    let e : c.loop-e.e ≡ c.args.hi = omega arith in
    (rw e at c.loop-e.invariant.0, rw e at c.loop-e.invariant.1)
