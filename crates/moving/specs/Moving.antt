-- What the moving of a list promises.
use Rattle.std.specs.Prelude.{ℕ, ◌≡◌, ◌⊎◌, List, length, ℤ, pos, ◌+ℤ◌, ◌<ℤ◌}
use Rattle.checks.specs.declared.Answer.{Answer}
use Rattle.day.specs.Windows.{Windows, at, windows}
use Rattle.day.specs.Moved.{Shifts}
use Rattle.day.specs.Changed.{FirstFilled}
use Rattle.checks.specs.Answer.{done, leaves_day}
use Rattle.checks.specs.Refusal.{◌then◌, RefusesRow, Passed}
use Rattle.checks.specs.Check.{TimesCheck}

-- the window from release to deadline, moved, begins before slot 0 or ends after the day
abbrev pub WindowLeaves : ℕ → ℤ → ℕ → ℕ → Type 0
WindowLeaves slots by release deadline = ((pos release +ℤ by) <ℤ pos 0) ⊎ (pos slots <ℤ (pos deadline +ℤ by))

abbrev pub LeavesDay : ℕ → ℤ → Windows → ℕ → Type 0
LeavesDay slots by w i = WindowLeaves slots by (w.release i) (w.deadline i)

-- what is checked of the list, and 18
abbrev pub MoveCheck : (Answer → Type 0) → ℕ → ℤ → Windows → Answer → Type 0
MoveCheck Check slots by w = Check then RefusesRow leaves_day w.count (LeavesDay slots by w)

-- new is old with its first n numbers moved, and nothing more
abbrev pub FirstMoved : ℤ → ℕ → List ℕ → List ℕ → Type 0
FirstMoved by n old = FirstFilled n (λ i y. Shifts by (at old i) y) old

-- every row is moved; a deadline without a release is no row and stays
pub record RowsMoved (by : ℤ) (releases deadlines releases-after deadlines-after : List ℕ) : Type 0 where
  pub moved_releases : FirstMoved by (length releases) releases releases-after
  pub moved_deadlines : FirstMoved by (length releases) deadlines deadlines-after

-- a list that is moved, for any check of it
pub record MovedList (Check : Answer → Type 0) (slots : ℕ) (by : ℤ) (releases deadlines : List ℕ) (a : Answer) (releases-after deadlines-after : List ℕ) : Type 0 where
  pub answer : (MoveCheck Check slots by (windows releases deadlines) then Passed) a
  pub accepted : a.code ≡ done → RowsMoved by releases deadlines releases-after deadlines-after
  pub refused : (a.code ≡ done → ⊥) → (releases-after ≡ releases) × (deadlines-after ≡ deadlines)

-- what `move_list` promises: codes 1, 3 and 4 for the list
abbrev pub MovePromise : ℕ → ℤ → List ℕ → List ℕ → Answer → List ℕ → List ℕ → Type 0
MovePromise slots by releases deadlines = MovedList (TimesCheck slots (windows releases deadlines)) slots by releases deadlines
