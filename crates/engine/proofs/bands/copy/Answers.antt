-- `engine::bands::copy` meets its contract: the places of lo up to e are copied. Assumes nothing.
use Prim.Native.Nat.{◌+◌}
use mathlib.Core.Path.{◌≡◌}
use native.Mathlib.Omega.{arith}
use Rattle.engine.proofs.Along.{along_more}
use Rattle.engine.proofs.bands.copy.Goals as goal

pub loop-e-preserved : goal.loop-e-preserved
loop-e-preserved c =
    let a = c.args in
    let l = c.loop-e in
    along_more (λ x h q. omega arith) (omega arith) (omega arith)
    (l.invariant.outside (a.from + l.e) (λ x t. c.requires.3 l.e x (omega arith, omega arith) (t.0, omega arith))) l.invariant

pub returns : goal.returns
returns c =
    let e : c.loop-e.e ≡ c.args.hi = omega arith in
    rw e at c.loop-e.invariant
