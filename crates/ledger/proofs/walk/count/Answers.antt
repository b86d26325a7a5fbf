-- `ledger::walk::count` meets its contract. Assumes nothing.
use Prim.Native.Nat.{◌+◌, ◌<◌}
use native.Mathlib.Omega.{arith}
use lib.ListN.{length}
use Rattle.std.proofs.Common.{add_assoc, add-zero}
use Rattle.claim.proofs.Rows.{slots_from_length, slots_from_at}
use Rattle.ledger.proofs.Walked.{walked_first, walked_empty, walked_job, walked_end}
use Rattle.ledger.proofs.Run.{found_first}
use Rattle.ledger.proofs.walk.count.Goals as goal
use Rattle.ledger.proofs.walk.count.Goals.{then-row-eq0, else-row-eq0}

pub loop-row-init : goal.loop-row-init
loop-row-init c = rw (c.unwrap_or-first.ensures, add-zero) (walked_first (found_first _ _ c.next_job.ensures))

pub loop-row-preserved : goal.loop-row-preserved
loop-row-preserved c =
    let walked = c.loop-row in
    let first = c.unwrap_or-first.result in
    let within : first + walked.row-index < length c.args.rows.now = omega (arith, slots_from_length c.args.rows.now first) in
    rw (← add_assoc first walked.row-index 1)
    elim c.if-row-eq0.branch [
      | then-row-eq0 w ↦
          rw (w.job-is, w.awake-is, w.asleep-is) (walked_empty walked.invariant within (rw slots_from_at at w.if-row-eq0.true) w.empty-is)
      | else-row-eq0 w ↦
          walked_job walked.invariant within (rw slots_from_at at w.if-row-eq0.false) w.slept-dark.ensures w.asleep-is w.awake-is w.job-is w.empty-is
    ]

pub returns : goal.returns
returns c = walked_end c.loop-row.invariant (omega (arith, slots_from_length c.args.rows.now c.unwrap_or-first.result))
