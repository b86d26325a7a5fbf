-- `moving::check_move` meets its contract. Assumes nothing.
use mathlib.Core.Path.{refl}
use native.Mathlib.Omega.{arith}
use mir.Syntax.{w16}
use mir.ValLaws.{to_z-of_z}
use Rattle.checks.specs.Refusal.{stops, goes_on}
use Rattle.checks.proofs.Check.{times_is_check, clear_good_rows}
use Rattle.checks.proofs.Refusal.{passed_clear, then_clear, clear_next, none_clear, found_refused}
use Rattle.checks.proofs.Refused.{then_ok}
use Rattle.moving.proofs.check_move.Goals as goal

pub returns-in-Some : goal.returns-in-Some
returns-in-Some c =
    stops (then_ok times_is_check c.in_ok-check_times.ensures _ (found_refused _ (rw (to_z-of_z w16 c.args.by c.ranges.by) at c.in-Some.ensures)))

pub returns-in-None : goal.returns-in-None
returns-in-None c =
    goes_on
    (then_clear (passed_clear times_is_check _ c.in_ok-check_times.ensures refl)
    (none_clear (rw (to_z-of_z w16 c.args.by c.ranges.by) at c.in-None.ensures)))
    refl

-- an accepted list has few rows
pub overflow_cast-result : goal.overflow_cast-result
overflow_cast-result c =
    let good = clear_good_rows (clear_next (passed_clear times_is_check _ c.in_ok-check_times.ensures refl)) in
    record { fits = omega (arith, good.count, c.in-Some.ensures.within) }
