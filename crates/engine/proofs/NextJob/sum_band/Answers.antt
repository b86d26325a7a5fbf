-- `engine::NextJob::sum_band` meets its contract: the places up to the job's release are copied, those after it are sums. Assumes nothing.
use Prim.Native.Nat.{ℕ, ◌+◌, ◌<◌, ◌≤◌}
use mathlib.Core.Path.{refl}
use mathlib.Core.List.{List}
use native.Mathlib.Omega.{arith}
use Rattle.engine.specs.steps.OneMore.{OneMore, more_in, value_with, Fillable}
use Rattle.engine.proofs.Along.{along_undone}
use Rattle.engine.proofs.Level.{released_before_end, next_there, copyable, band_there, fillable_copied, band_added}
use Rattle.engine.proofs.NextJob.sum_band.Goals as goal
use Rattle.engine.proofs.NextJob.sum_band.Goals.{After-copy_band}

from_there : {J : OneMore} {table : List ℕ} → Fillable J table → (from : ℕ) → from ≤ J.release → from < J.shape.points
from_there f from h = omega (arith, released_before_end f)

pub overflow_add-self : goal.overflow_add-self
overflow_add-self c = omega (arith, next_there c.requires.fillable)

pub band_of-here-requires : goal.band_of-here-requires
band_of-here-requires c =
    let f = c.requires.fillable in
    let h = from_there f c.args.from c.requires.from_le_release.0 in (
      omega (arith, h, f.bands),
      omega (arith, band_there (copyable f) c.args.from h (c.args.self.job + 1) _ (omega arith) refl),
    )

-- over the copy
module _ (c : After-copy_band) where
  able : Fillable (more_in c.args.self) c.copy_band.new.table
  able = fillable_copied c.requires.fillable c.args.from _ c.requires.from_le_release.0 c.copy_band.ensures

pub unload-requires : goal.unload-requires
unload-requires c =
    let f = c.requires.fillable in
    let from = c.args.from in (
      omega (arith, released_before_end f),
      omega (arith, c.add_splits.ensures.long, c.requires.from_le_release.1.long),
      omega (
        arith,
        band_there (copyable (able (goal.at.unload-requires c).After-copy_band)) from (from_there f from c.requires.from_le_release.0)
            (c.args.self.job + 1) _ (omega arith) c.band_of-here.ensures,
      ),
    )

pub returns : goal.returns
returns c =
    let sums = c.add_splits.ensures in
    let unloaded = c.unload.ensures in (
      along_undone {f = value_with (more_in c.args.self) c.copy_band.new.table c.args.from}
          c.requires.from_le_release.1.none sums unloaded.1,
      band_added c.requires.fillable c.args.from _ c.requires.from_le_release.0 c.copy_band.ensures sums
          (rw c.band_of-here.ensures at unloaded.0),
    )
