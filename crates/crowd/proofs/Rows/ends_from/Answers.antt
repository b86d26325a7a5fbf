-- `crowd::Rows::ends_from` meets its contract. Assumes nothing.
use Prim.Native.Nat.{◌≤◌}
use mathlib.Core.Path.{◌≡◌}
use native.Mathlib.Omega.{arith}
use Rattle.day.specs.Windows.{at}
use Rattle.day.proofs.Count.{count_at_most_all}
use Rattle.checks.specs.Check.{most_slots}
use Rattle.crowd.proofs.Ends.{ends_none, ends_counted, ends_passed}
use Rattle.crowd.proofs.Rows.ends_from.Goals as goal
use Rattle.crowd.proofs.Rows.ends_from.Goals.{After-from-end, then-from-begin, else-from-begin}

pub loop-row-init : goal.loop-row-init
loop-row-init c = ends_none

-- the row has its deadline
its_deadline : (c : After-from-end) → c.from-end.result ≡ at c.args.self.now.deadlines.now c.loop-row.row
its_deadline c = c.from-end.ensures

in_day : (c : After-from-end) → c.from-end.result ≤ most_slots
in_day c = omega (arith, its_deadline c, c.args.self.now.good.in_day _ c.loop-row-test.true)

-- no more rows end there than there are
pub overflow_add-ends : goal.overflow_add-ends
overflow_add-ends c =
    let here = (goal.at.overflow_add-ends c).After-from-end in
    omega (arith, count_at_most_all (c.loop-row.invariant.each c.from-end.result (in_day here)), c.args.self.now.good.count)

pub loop-row-preserved : goal.loop-row-preserved
loop-row-preserved c =
    let known = (goal.at.loop-row-preserved c).After-from-end in
    let so_far = c.loop-row.invariant in
    elim c.if-from-begin.branch [
      | then-from-begin w ↦
          rw w.ends-is (ends_counted so_far _ (its_deadline known) (omega (arith, w.if-from-begin.true, c.from.ensures)) (in_day known))
      | else-from-begin w ↦ rw w.ends-is (ends_passed so_far (omega (arith, w.if-from-begin.false, c.from.ensures)))
    ]
