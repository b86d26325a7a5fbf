-- Runs that meet what the theorems of demand 3 and of moving ask, so that none of them speaks of nothing: P9 with its two parts, P8 and its mirrored
-- list, P8 on a longer day and moved. Assumes nothing.
use Prim.Native.Nat.{ℕ, ◌+◌}
use mathlib.Core.Path.{◌≡◌, refl}
use mathlib.Core.List.{List, [], ◌∷◌}
use lib.ListN.{length, replicate}
use lib.IntN.{pos}
use Rattle.day.specs.Mirrored.{mirrored}
use Rattle.day.specs.Joined.{joined}
use Rattle.day.specs.Windows.{Windows, SameRows}
use Rattle.day.specs.Plan.{taken}
use Rattle.day.specs.Gap.{price, cost, total, gaps, gaps_since, ended}
use Rattle.checks.specs.Zero.{zeroed}
use Rattle.planner.specs.Table.{need}
use Rattle.demands.specs.Run.{Run, list, Served}
use Rattle.demands.specs.ExamplesTable.{answer_of, day_with, releases_of, deadlines_of, P8}
use Rattle.demands.specs.SideBySide.{Joins}
use Rattle.demands.specs.Mirrored.{Mirrors}
use Rattle.demands.specs.Moving.{Moves}
use Rattle.demands.proofs.Test.{Test, at_most, equal, both, through, all_below}
use Rattle.demands.proofs.Computed.{best_test, no_plan_test, accepted_test, judge_plan, planned}
use Rattle.demands.proofs.ExamplesOfMoving.{moved_list}

-- rows, T, L; then cost and starts. The lent lists have just the places needed, and hold 9 before
abbrev pub run_with : List (ℕ × ℕ) → ℕ → ℕ → ℕ → List ℕ → Run
run_with jobs slots wake cost starts =
    record {
      day = day_with slots wake;
      releases = releases_of jobs;
      deadlines = deadlines_of jobs;
      starts = replicate (length jobs) 9;
      table = replicate (need slots (length jobs)) 9;
      answer = answer_of 0 cost 0;
      starts_after = starts;
      table_after = replicate (need slots (length jobs)) 0;
    }

abbrev pub served_test : (run : Run) → Test (Served run)
served_test run =
    through
    (λ t. record { promised = t.0; admitted = record { accepted = t.1.0; room = t.1.1.0; table = t.1.1.1 } })
    (both
    (planned (judge_plan run.day (list run) run.starts run.table) (need run.day.slots (list run).count) run.day (list run)
    run.starts run.table run.answer run.starts_after run.table_after)
    (both (accepted_test run.day (list run))
    (both (at_most (list run).count (length run.starts)) (at_most (need run.day.slots (list run).count) (length run.table)))))

abbrev same_rows_test : (w v : Windows) → Test (SameRows w v)
same_rows_test w v =
    through (λ t. record { count = t.0; release = λ i l. (t.1 i l).0; deadline = λ i l. (t.1 i l).1 })
    (both (equal v.count w.count)
    (all_below {P = λ i. (w.release i ≡ v.release i) × (w.deadline i ≡ v.deadline i)}
    (λ i. both (equal (w.release i) (v.release i)) (equal (w.deadline i) (v.deadline i))) w.count))

-- side by side: P9's first two rows end by slot 3, and its third begins a wake later

abbrev early : Run
early = run_with ((0, 2) ∷ (1, 3) ∷ []) 8 3 0 (1 ∷ 2 ∷ [])

abbrev late : Run
late = run_with ((6, 8) ∷ []) 8 3 0 (7 ∷ [])

abbrev whole : Run
whole = run_with ((0, 2) ∷ (1, 3) ∷ (6, 8) ∷ []) 8 3 3 (1 ∷ 2 ∷ 7 ∷ [])

pub parts_served : Served early × (Served late × Served whole)
unfolding need zeroed best_test no_plan_test cost price total gaps gaps_since ended taken
parts_served = (both (served_test early) (both (served_test late) (served_test whole))).shows refl

pub parts_join : Joins 3 early late whole
parts_join =
    record {
      day = refl;
      whole_day = refl;
      rows = (same_rows_test (joined (list early) (list late)) (list whole)).shows refl;
      by_g = (all_below (λ i. at_most ((list early).deadline i) 3) 2).shows refl;
      wake_later = (all_below (λ i. at_most (3 + 3) ((list late).release i)) 1).shows refl;
    }

-- mirrored

abbrev pub forward : Run
forward = run_with P8 10 3 4 (0 ∷ 7 ∷ 9 ∷ [])

abbrev backward : Run
backward = run_with ((9, 10) ∷ (2, 8) ∷ (0, 1) ∷ []) 10 3 4 (9 ∷ 7 ∷ 0 ∷ [])

pub mirrored_served : Served forward × Served backward
unfolding need zeroed best_test no_plan_test cost price total gaps gaps_since ended taken
mirrored_served = (both (served_test forward) (served_test backward)).shows refl

pub mirrors : Mirrors forward backward
mirrors = record { day = refl; rows = (same_rows_test (mirrored 10 (list forward)) (list backward)).shows refl }

-- moved by two slots

abbrev before_move : Run
before_move = run_with P8 12 3 4 (0 ∷ 7 ∷ 9 ∷ [])

abbrev after_move : Run
after_move = run_with ((2, 3) ∷ (4, 10) ∷ (11, 12) ∷ []) 12 3 4 (2 ∷ 9 ∷ 11 ∷ [])

pub moved_served : Served before_move × Served after_move
unfolding need zeroed best_test no_plan_test cost price total gaps gaps_since ended taken
moved_served = (both (served_test before_move) (served_test after_move)).shows refl

pub moves : Moves (pos 2) before_move after_move
moves =
    record {
      day = refl;
      answer = answer_of 0 0 0;
      promised =
          (moved_list 12 (pos 2) before_move.releases before_move.deadlines (answer_of 0 0 0) after_move.releases after_move.deadlines
          ).shows refl;
      accepted = refl;
    }
