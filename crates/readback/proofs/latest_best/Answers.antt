-- `readback::latest_best` meets its contract: no place from `point` on has the sum. Assumes nothing.
use Prim.Native.Nat.{ℕ, ◌+◌, ◌-◌, ◌≤◌, ◌<◌}
use mathlib.Core.Path.{◌≡◌}
use native.Mathlib.Omega.{arith}
use lib.ListN.{length}
use Rattle.engine.specs.Places.{place, layout_in}
use Rattle.engine.specs.steps.OneMore.{more_in}
use Rattle.engine.proofs.Level.{span_there}
use Rattle.readback.proofs.Search.{other_passed, first_found, release_found}
use Rattle.readback.proofs.latest_best.Goals as goal
use Rattle.readback.proofs.latest_best.Goals.{Start}

-- the two sides of a place of the span from the release on
sides_there : (c : Start) (point : ℕ) → c.args.next.release ≤ point → point < c.args.span.to
    → (place (layout_in c.args.next.frame) c.args.next.job c.args.span.from point < length c.args.table.now)
    × (place (layout_in c.args.next.frame) c.args.next.job (point + 1) c.args.span.to < length c.args.table.now)
sides_there c point low high = (
  (span_there c.requires.fillable c.args.span.from point (omega arith, omega arith)).there,
  (span_there c.requires.fillable (point + 1) c.args.span.to (omega arith, omega arith)).there,
)

pub split_at-split-requires-clause-point_in_bounds : goal.split_at-split-requires-clause-point_in_bounds
split_at-split-requires-clause-point_in_bounds c =
    sides_there (goal.at.split_at-split-requires-clause-point_in_bounds c).Start (c.loop-point.point - 1) (omega arith) (omega (arith, c.min-after.ensures))

pub returns-then-split-value : goal.returns-then-split-value
returns-then-split-value c =
    let found = c.split_at-split.ensures in
    first_found (more_in c.args.next) c.args.table.now c.args.span.from c.args.span.to c.args.value _ found.1
    (omega arith, omega arith) (rw (← found.0) at c.loop-point.invariant.1) (omega arith)
    (omega (arith, c.min-after.ensures)) (omega (arith, c.min-after.ensures))
    (rw found.0 (omega (arith, c.from.ensures))) c.if-split-value.true

pub loop-point-preserved-else-split-value : goal.loop-point-preserved-else-split-value
loop-point-preserved-else-split-value c =
    let found = c.split_at-split.ensures in (
      omega arith,
      rw found.0 at
          (other_passed (more_in c.args.next) c.args.table.now c.args.span.from c.args.span.to c.args.value _ found.1
          c.if-split-value.false (rw (← found.0) at c.loop-point.invariant.1)),
    )

pub split_at-requires-clause-point_in_bounds : goal.split_at-requires-clause-point_in_bounds
split_at-requires-clause-point_in_bounds c =
    sides_there (goal.at.split_at-requires-clause-point_in_bounds c).Start c.args.next.release (omega arith) (omega arith)

pub returns : goal.returns
returns c =
    let found = c.split_at.ensures in
    let last : c.loop-point.point - 1 ≡ c.split_at.result.point = omega arith in
    release_found (more_in c.args.next) c.args.table.now c.args.span.from c.args.span.to c.args.value _ found.1
    (omega arith, omega arith) (rw last at c.loop-point.invariant.1) found.0
