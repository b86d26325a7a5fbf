-- `claim::slots::cost` meets its contract. Assumes nothing.
use Prim.Native.Nat.{◌+◌, ◌<◌}
use native.Mathlib.Omega.{arith}
use lib.ListN.{length}
use Rattle.std.proofs.Common.{add_assoc, add-zero}
use Rattle.day.proofs.Gap.{price_at_most_length}
use Rattle.claim.proofs.Rows.{slots_from_length, slots_from_at}
use Rattle.claim.proofs.Paying.{paying_first, paying_empty, paying_job, paying_end}
use Rattle.claim.proofs.slots.cost.Goals as goal
use Rattle.claim.proofs.slots.cost.Goals.{then-row-eq0, else-row-eq0}

pub returns-in_default : goal.returns-in_default
returns-in_default c = paying_end (paying_first c.in_default.ensures) (omega arith)

pub loop-row-init : goal.loop-row-init
loop-row-init c = rw add-zero (paying_first c.in-Some.ensures.1)

pub overflow_add-cost : goal.overflow_add-cost
overflow_add-cost c =
    omega (arith, c.price-cost.ensures, price_at_most_length c.args.power c.loop-row.empty, slots_from_length c.args.rows.now c.in-Some.first)

pub loop-row-preserved : goal.loop-row-preserved
loop-row-preserved c =
    let walked = c.loop-row in
    let within : c.in-Some.first + walked.row-index < length c.args.rows.now = omega (arith, slots_from_length c.args.rows.now c.in-Some.first) in
    rw (← add_assoc c.in-Some.first walked.row-index 1)
    elim c.if-row-eq0.branch [
      | then-row-eq0 w ↦ rw w.cost-is (paying_empty walked.invariant within (rw slots_from_at at w.if-row-eq0.true) w.empty-is)
      | else-row-eq0 w ↦
          paying_job walked.invariant within (rw slots_from_at at w.if-row-eq0.false) w.price-cost.ensures w.cost-is w.empty-is
    ]

pub returns : goal.returns
returns c = paying_end c.loop-row.invariant (omega (arith, slots_from_length c.args.rows.now c.in-Some.first))
