-- `engine::Frame::copy_band` meets its contract: the two bands have no place in common. Assumes nothing.
use Prim.Native.Nat.{◌+◌}
use mathlib.Core.Path.{refl}
use native.Mathlib.Omega.{arith}
use Rattle.engine.proofs.Places.{levels_below}
use Rattle.engine.proofs.Level.{band_there, bands_apart}
use Rattle.engine.proofs.Frame.copy_band.Goals as goal

pub band_of-below-requires : goal.band_of-below-requires
band_of-below-requires c =
    (omega (arith, c.requires.copyable.bands), omega (arith, band_there c.requires.copyable c.args.from (omega arith) c.args.jobs _ (omega arith) refl))

pub overflow_add-jobs : goal.overflow_add-jobs
overflow_add-jobs c =
    omega (arith, c.requires.copyable.room, levels_below c.requires.copyable.fits (c.args.jobs + 1) (omega arith))

pub band_of-here-requires : goal.band_of-here-requires
band_of-here-requires c =
    (omega (arith, c.requires.copyable.bands), omega (arith, band_there c.requires.copyable c.args.from (omega arith) (c.args.jobs + 1) _ (omega arith) refl))

pub copy-requires : goal.copy-requires
copy-requires c =
    let a = c.args in
    let below = c.band_of-below in
    let here = c.band_of-here in (
      c.requires.from_le_hi.0,
      omega (arith, band_there c.requires.copyable a.from (omega arith) a.jobs below.result (omega arith) below.ensures),
      omega (arith, band_there c.requires.copyable a.from (omega arith) (a.jobs + 1) here.result (omega arith) here.ensures),
      bands_apart c.requires.copyable a.from (omega arith) below.result here.result a.hi below.ensures here.ensures c.requires.from_le_hi.1,
    )

pub returns : goal.returns
returns c = rw (c.band_of-below.ensures, c.band_of-here.ensures) at c.copy.ensures
