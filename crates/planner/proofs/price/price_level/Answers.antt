-- `planner::price::price_level` meets its contract: the bands below `from` are filled. Assumes nothing.
use Prim.Native.Nat.{◌+◌, ◌≤◌}
use mathlib.Core.Path.{refl}
use native.Mathlib.Omega.{arith}
use lib.ListN.{length}
use Rattle.engine.specs.Places.{band, layout_in}
use Rattle.engine.proofs.Places.{band_below}
use Rattle.engine.proofs.Level.{bands_more}
use Rattle.planner.proofs.price.price_level.Goals as goal
use Rattle.planner.proofs.price.price_level.Goals.{In-loop-from}

-- the band lies in the table
band_there : (c : In-loop-from) → band (layout_in c.args.frame) 0 c.loop-from.from + c.args.frame.shape.points ≤ length c.loop-from.table
band_there c =
    omega (
      arith,
      c.loop-from.invariant.long,
      c.requires.slots_le_most_slots.3,
      band_below c.requires.fits 0 0 c.loop-from.from _ (omega arith) (omega arith) refl,
    )

pub band_of-here-requires : goal.band_of-here-requires
band_of-here-requires c =
    (omega (arith, c.requires.slots_le_most_slots.2), omega (arith, band_there (goal.at.band_of-here-requires c).In-loop-from))

pub price_band-requires : goal.price_band-requires
price_band-requires c =
    (c.requires.slots_le_most_slots.0, c.requires.slots_le_most_slots.1, omega arith, omega (arith, c.band_of-here.ensures, band_there (goal.at.price_band-requires c).In-loop-from))

pub loop-from-preserved : goal.loop-from-preserved
loop-from-preserved c =
    bands_more c.requires.fits 0 _ c.loop-from.from (omega arith) (omega arith) c.loop-from.invariant
    (rw c.band_of-here.ensures at c.price_band.ensures)
