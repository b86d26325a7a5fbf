-- `engine::NextJob::fill_level` meets its contract: the bands up to the release are sums, those after it copies. Assumes nothing.
use native.Mathlib.Omega.{arith}
use Rattle.engine.proofs.Level.{released_before_end, rest_copied}
use Rattle.engine.proofs.NextJob.fill_level.Goals as goal

pub returns : goal.returns
returns c =
    let f = c.requires.fillable in
    let summed = c.sum_bands.ensures in
    (summed.0, rest_copied f _ _ _ (omega arith) (omega (arith, released_before_end f)) summed.1 c.copy_level.ensures)
