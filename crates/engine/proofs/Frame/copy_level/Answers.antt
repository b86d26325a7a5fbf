-- `engine::Frame::copy_level` meets its contract: the bands below `from` are copied. Assumes nothing.
use native.Mathlib.Omega.{arith}
use Rattle.engine.proofs.Level.{copied_more}
use Rattle.engine.proofs.Frame.copy_level.Goals as goal

pub loop-from-preserved : goal.loop-from-preserved
loop-from-preserved c =
    copied_more c.requires.copyable.fits c.args.jobs c.args.first c.loop-from.from _ _ _ (omega arith) (omega arith) c.loop-from.invariant c.copy_band.ensures
