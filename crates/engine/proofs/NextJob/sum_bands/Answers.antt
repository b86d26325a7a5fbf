-- `engine::NextJob::sum_bands` meets its contract: the bands below `from` are there. Assumes nothing.
use mathlib.Core.Path.{◌∙◌}
use native.Mathlib.Omega.{arith}
use Rattle.engine.proofs.Level.{released_before_end, fillable_added, added_more}
use Rattle.engine.proofs.NextJob.sum_bands.Goals as goal

pub sum_band-requires-clause-fillable : goal.sum_band-requires-clause-fillable
sum_band-requires-clause-fillable c = fillable_added c.requires.fillable c.loop-from.from _ c.loop-from.invariant.1

pub loop-from-preserved : goal.loop-from-preserved
loop-from-preserved c =
    let l = c.loop-from in
    let added = c.sum_band.ensures in (
      added.0 ∙ l.invariant.0,
      added_more c.requires.fillable l.from _ _ (omega (arith, released_before_end c.requires.fillable)) l.invariant.1 added.1,
    )
