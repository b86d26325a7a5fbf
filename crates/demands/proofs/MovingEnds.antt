-- Where a moved window leaves the day, an empty list, and the shifts of -32,768 and 0. Assumes nothing.
use Prim.Native.Nat.{◌+◌}
use mathlib.Core.Path.{refl}
use native.Mathlib.Omega.{arith}
use lib.IntN.{negsuc}
use Rattle.day.specs.Windows.{windows, at}
use Rattle.checks.specs.Answer.{says, leaves_day}
use Rattle.checks.specs.Refusal.{stops, goes_on}
use Rattle.day.proofs.Cases.{on_le}
use Rattle.checks.proofs.Refusal.{passed_unique}
use Rattle.checks.proofs.Check.{times_is_check, times_avoids, times_clear}
use Rattle.moving.proofs.Moving.{move_is_check}
use Rattle.moving.proofs.Ends.{too_early, early_stays, too_late, late_stays, smallest_leaves}
use Rattle.moving.proofs.Ends.{empty_list_stays, zero_shift_keeps}
use Rattle.demands.specs.Moving.{LeavesAtEnds, MovesAtEnds}

pub leaves_at_ends : LeavesAtEnds
leaves_at_ends =
    record {
      earlier = λ slots n r d day out.
          on_le r n (λ h. h) (λ h. absurd (early_stays slots n r d h day.window day.within out));
      too_early = too_early;
      later = λ slots n r d out. on_le (d + n) slots (λ h. absurd (late_stays slots n r d h out)) (λ h. h);
      too_late = too_late;
    }

pub moves_at_ends : MovesAtEnds
moves_at_ends =
    record {
      empty = λ slots by deadlines a rs ds promised. empty_list_stays (times_avoids (omega arith)) promised;
      smallest = λ slots releases deadlines a rs ds tried some.
          passed_unique (move_is_check times_is_check slots (negsuc 32767) (windows releases deadlines)) a (says leaves_day 1 0)
          tried.promised.answer
          (stops
          (goes_on (times_clear tried.some_slots tried.slots_taken tried.rows)
          (record {
            row = 0;
            first =
                record {
                  within = some;
                  fault =
                      smallest_leaves slots (at releases 0) (at deadlines 0)
                      (omega (arith, tried.slots_taken, tried.rows.window 0 some, tried.rows.in_day 0 some));
                  lowest = λ j h. absurd (omega arith);
                };
            says = refl;
          })));
      zero = λ slots releases deadlines a rs ds tried.
          zero_shift_keeps times_is_check (times_clear tried.some_slots tried.slots_taken tried.rows) tried.rows.in_day
          tried.promised;
    }
