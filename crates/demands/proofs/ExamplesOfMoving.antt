-- The examples of moving a list hold: each row's outcome is tested. Assumes nothing.
use Prim.Native.Nat.{ℕ}
use mathlib.Core.Path.{◌≡◌, refl, ap}
use mathlib.Core.List.{List}
use lib.ListN.{length}
use lib.IntN.{ℤ, pos, negsuc, ◌+ℤ◌}
use lib.Signed.{lt_z, ◌<ℤ◌}
use Rattle.checks.specs.declared.Answer.{Answer}
use Rattle.day.specs.Windows.{Windows, windows, at}
use Rattle.checks.specs.Answer.{done}
use Rattle.checks.specs.Check.{TimesCheck}
use Rattle.moving.specs.Moving.{LeavesDay, MoveCheck, FirstMoved, RowsMoved, MovePromise}
use Rattle.moving.proofs.Signs.{below, not_below}
use Rattle.demands.specs.ExamplesTable.{releases_of, deadlines_of}
use Rattle.demands.specs.ExamplesOfMoving.{Move, MovesTo, moved_examples, MovedExamplesHold}
use Rattle.demands.proofs.Test.{
  Test,
  equal,
  is_false,
  fails,
  both,
  through,
  by_equal,
  BothWays,
  is_either,
  same_numbers,
  first_filled,
  all_in,
}
use Rattle.demands.proofs.ExamplesChecked.{shown_test, Judge, answers, judge_then, judge_row, passed, judge_times}
use Rattle.demands.proofs.OneOutcome.{one_outcome}

abbrev is_below : (a b : ℤ) → BothWays (a <ℤ b)
is_below a b =
    record { yes = record { passes = lt_z a b; shows = below a b }; no = through (not_below a b) (is_false (lt_z a b)) }

abbrev is_pos : (z : ℤ) (n : ℕ) → Test (z ≡ pos n)
is_pos (pos m) n = through (λ e. ap pos e) (equal m n)
is_pos (negsuc m) n = fails

abbrev first_moved : (by : ℤ) (n : ℕ) (xs ys : List ℕ) → Test (FirstMoved by n xs ys)
first_moved by n xs = first_filled (λ i y. is_pos (pos (at xs i) +ℤ by) y) n xs

abbrev leaves : (slots : ℕ) (by : ℤ) (w : Windows) (i : ℕ) → BothWays (LeavesDay slots by w i)
leaves slots by w i =
    is_either (is_below (pos (w.release i) +ℤ by) (pos 0)) (is_below (pos slots) (pos (w.deadline i) +ℤ by))

abbrev judge_move : (slots : ℕ) (by : ℤ) (w : Windows) → Judge (MoveCheck (TimesCheck slots w) slots by w)
judge_move slots by w =
    judge_then (judge_times slots w) (judge_row _ w.count (leaves slots by w))

abbrev rows_moved : (by : ℤ) (releases deadlines rs ds : List ℕ) → Test (RowsMoved by releases deadlines rs ds)
rows_moved by releases deadlines rs ds =
    through (λ f. record { moved_releases = f.0; moved_deadlines = f.1 })
    (both (first_moved by (length releases) releases rs) (first_moved by (length releases) deadlines ds))

abbrev pub moved_list : (slots : ℕ) (by : ℤ) (releases deadlines : List ℕ) (a : Answer) (rs ds : List ℕ)
    → Test (MovePromise slots by releases deadlines a rs ds)
moved_list slots by releases deadlines a rs ds =
    through (λ f. record { answer = f.0; accepted = f.1.0; refused = f.1.1 })
    (both (answers (judge_move slots by (windows releases deadlines)) passed a)
    (by_equal a.code done (rows_moved by releases deadlines rs ds) (both (same_numbers rs releases) (same_numbers ds deadlines))))

abbrev move_test : (move : Move) (after : Answer × List ℕ × List ℕ) → Test (MovesTo move after)
move_test move after =
    moved_list move.slots move.by (releases_of move.jobs) (deadlines_of move.jobs) after.0 after.1 after.2

pub moved_examples_hold : MovedExamplesHold
unfolding moved_examples
moved_examples_hold =
    (all_in
    (shown_test
    (λ move. one_outcome.move_list move.slots move.by (releases_of move.jobs) (deadlines_of move.jobs)) move_test)
    moved_examples).shows
    refl
