-- `moving::move_list` meets its contract. Assumes nothing.
use mathlib.Core.Path.{refl}
use native.Mathlib.Omega.{arith}
use mir.Syntax.{w16}
use mir.ValLaws.{to_z-of_z}
use Rattle.checks.proofs.Check.{good_rows_deadlines}
use Rattle.checks.proofs.Refused.{given_back, refused_not_done}
use Rattle.moving.proofs.Moving.{acceptable, releases_movable, deadlines_movable}
use Rattle.moving.proofs.move_list.Goals as goal

pub returns-in_err-check_move : goal.returns-in_err-check_move
returns-in_err-check_move c =
    rw (given_back c.from_residual.result c.from_residual.ensures.1)
    record {
      answer = rw (to_z-of_z w16 c.args.by c.ranges.by) at c.in_err-check_move.ensures;
      accepted = λ e. absurd (refused_not_done _ e);
      refused = λ h. (refl, refl);
    }

-- a list that was not refused can be moved
pub move_first-requires : goal.move_first-requires
move_first-requires c = (
  omega arith,
  rw (to_z-of_z w16 c.args.by c.ranges.by)
      (releases_movable c.args.releases.now c.args.deadlines.now
      (acceptable _ (rw (to_z-of_z w16 c.args.by c.ranges.by) at c.in_ok-check_move.ensures) refl)),
)

pub move_first-requires-2 : goal.move_first-requires-2
move_first-requires-2 c =
    let known = acceptable _ (rw (to_z-of_z w16 c.args.by c.ranges.by) at c.in_ok-check_move.ensures) refl in (
      good_rows_deadlines c.args.releases.now c.args.deadlines.now known.rows,
      rw (to_z-of_z w16 c.args.by c.ranges.by) (deadlines_movable c.args.releases.now c.args.deadlines.now known),
    )

pub returns : goal.returns
returns c = record {
  answer = rw (to_z-of_z w16 c.args.by c.ranges.by) at c.in_ok-check_move.ensures;
  accepted = λ e.
      record {
        moved_releases = rw (to_z-of_z w16 c.args.by c.ranges.by) at c.move_first.ensures;
        moved_deadlines = rw (to_z-of_z w16 c.args.by c.ranges.by) at c.move_first-2.ensures;
      };
  refused = λ h. absurd (h refl);
}
