-- `crowd::Rows::crowded_from` meets its contract. Assumes nothing.
use Prim.Native.Nat.{◌+◌}
use native.Mathlib.Omega.{arith}
use lib.ListN.{length}
use Rattle.day.specs.Windows.{at, windows}
use Rattle.day.specs.Count.{Count}
use Rattle.day.proofs.Count.{count_at_most_all}
use Rattle.crowd.specs.steps.Ends.{EndsAt}
use Rattle.crowd.proofs.Ends.{inside_next}
use Rattle.crowd.proofs.FromBegin.{walk_begun, walk_next, walk_found, from_none}
use Rattle.crowd.proofs.Rows.crowded_from.Goals as goal
use Rattle.crowd.proofs.Rows.crowded_from.Goals.{In-loop-reached}

pub loop-reached-init : goal.loop-reached-init
loop-reached-init c = walk_begun c.args.self.now.good

-- how many rows end at the next end
next_ends : (c : In-loop-reached) →
    let rows = c.args.self.now in
    let end = c.loop-reached.reached + 1 in
    Count (EndsAt (windows rows.releases.now rows.deadlines.now) c.args.begin end) (length rows.releases.now) (at c.ends_from-ends.result end)
next_ends c =
    c.ends_from-ends.ensures.each (c.loop-reached.reached + 1)
    (omega (arith, c.loop-reached-test.true, c.requires))

pub overflow_add-jobs : goal.overflow_add-jobs
overflow_add-jobs c =
    omega (
      arith,
      count_at_most_all (inside_next c.loop-reached.invariant.inside (next_ends (goal.at.overflow_add-jobs c).In-loop-reached)),
      c.args.self.now.good.count,
    )

pub returns-then-from-end : goal.returns-then-from-end
returns-then-from-end c =
    walk_found c.loop-reached.invariant (next_ends (goal.at.returns-then-from-end c).In-loop-reached) c.loop-reached-test.true
    (omega (arith, c.if-from-end.true, c.from.ensures))

pub loop-reached-preserved : goal.loop-reached-preserved
loop-reached-preserved c =
    walk_next c.loop-reached.invariant (next_ends (goal.at.loop-reached-preserved c).In-loop-reached)
    (omega (arith, c.if-from-end.false, c.from.ensures))

pub returns : goal.returns
returns c =
    from_none _ _ _ (λ e l. c.loop-reached.invariant.calm e (omega (arith, c.loop-reached-test.false)))
