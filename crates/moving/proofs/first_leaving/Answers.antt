-- `moving::first_leaving` meets its contract. Assumes nothing.
use native.Mathlib.Omega.{arith}
use mir.Syntax.{w16}
use mir.ValLaws.{to_z-of_z}
use Rattle.moving.proofs.first_leaving.Goals as goal

pub returns : goal.returns
returns c = rw (← to_z-of_z w16 c.args.by c.ranges.by) (λ j h. c.loop-row.invariant j (omega arith))
