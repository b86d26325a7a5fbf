-- `engine::NextJob::add_splits` meets its contract: the sums are the least over the splits passed. Assumes nothing.
use Prim.Native.Nat.{ℕ, ◌+◌, ◌≤◌, ◌<◌}
use mathlib.Core.Path.{◌≡◌, refl}
use Rattle.day.specs.Windows.{at}
use native.Mathlib.Omega.{arith}
use lib.ListN.{length}
use Rattle.engine.specs.Places.{band, place, layout_in}
use Rattle.engine.specs.steps.OneMore.{more_in, one_job}
use Rattle.engine.proofs.Level.{copyable, span_there, band_there}
use Rattle.engine.proofs.Sums.{sums_none, unmarked_skipped, split_fits, split_lowers, sums_value}
use Rattle.engine.proofs.NextJob.add_splits.Goals as goal
use Rattle.engine.proofs.NextJob.add_splits.Goals.{After-from, then-self-from, else-self-from}

-- within the loop, each fact by itself, which keeps the check small
module _ (c : After-from) where
  abbrev split : ℕ
  split = c.loop-split.split

  within : split < c.args.self.deadline
  within = omega arith

  begun : c.args.from ≤ split
  begun = omega (arith, c.requires.from_le_release.0)

  before_end : split + 1 < c.args.self.frame.shape.points
  before_end = omega (arith, c.requires.fillable.before_end)

  left_there : place (layout_in c.args.self.frame) c.args.self.job c.args.from split < length c.args.table.now
  left_there = (span_there c.requires.fillable c.args.from split (begun, omega (arith, before_end))).there

  right_there : band (layout_in c.args.self.frame) c.args.self.job (split + 1) + c.args.self.frame.shape.points ≤ length c.args.table.now
  right_there = band_there (copyable c.requires.fillable) (split + 1) before_end c.args.self.job _ (omega arith) refl

  fits : (e : ℕ) → split + 1 ≤ e → e < c.args.self.frame.shape.points
      → (at c.args.table.now (place (layout_in c.args.self.frame) c.args.self.job c.args.from split)
      + at c.args.table.now (place (layout_in c.args.self.frame) c.args.self.job (split + 1) e) < 32768) × (at c.loop-split.sums e < 32768)
  fits = split_fits c.requires.fillable c.args.from split c.args.sums.now c.loop-split.sums within c.loop-split.invariant begun (omega arith)

pub loop-split-init : goal.loop-split-init
loop-split-init c =
    sums_none (one_job (more_in c.args.self) c.args.table.now) c.args.self.frame.shape.points c.args.from c.args.sums.now c.requires.from_le_release.1.none

pub add_split-requires-clause-split_in_bounds : goal.add_split-requires-clause-split_in_bounds
add_split-requires-clause-split_in_bounds c =
    let e = (goal.at.add_split-requires-clause-split_in_bounds c).After-from in (left_there e, right_there e)

pub add_split-requires-clause-by_index : goal.add_split-requires-clause-by_index
add_split-requires-clause-by_index c = fits (goal.at.add_split-requires-clause-by_index c).After-from

pub loop-split-preserved : goal.loop-split-preserved
loop-split-preserved c =
    let e = (goal.at.loop-split-preserved c).After-from in
    let l = c.loop-split in
    elim c.if-self-from.branch [
      | then-self-from w ↦
          rw w.sums-is
          (split_lowers c.requires.fillable c.args.from l.split c.args.sums.now l.sums (within e) l.invariant (begun e) (omega arith) _
          (omega (arith, c.from.ensures)) w.add_split.ensures)
      | else-self-from w ↦
          rw w.sums-is
          (unmarked_skipped c.requires.fillable c.args.from l.split c.args.sums.now l.sums (within e) l.invariant
          (omega (arith, c.from.ensures)))
    ]

pub returns : goal.returns
returns c =
    let e : c.loop-split.split ≡ c.args.self.deadline = omega arith in
    sums_value (one_job (more_in c.args.self) c.args.table.now) c.args.self.frame.shape.points c.args.from _ _ c.requires.from_le_release.0
    (rw e at c.loop-split.invariant)
