-- What the writer promises. T, L and windows may have any value.
use Rattle.std.specs.Prelude.{ℕ, ◌+◌, ◌<◌, ◌≤◌, ◌≡◌, List, length}
use Rattle.checks.specs.declared.Answer.{Answer}
use Rattle.day.specs.declared.Day.{Day}
use Rattle.day.specs.Windows.{windows}
use Rattle.checks.specs.Answer.{done, too_many_jobs, no_room}
use Rattle.checks.specs.Refusal.{◌then◌, Refuses, Passed}
use Rattle.checks.specs.Check.{most_jobs}
use Rattle.day.specs.Stored.{Stored}
use Rattle.dayfile.specs.Format.{distance_back, rows_and_trailer}

-- the length of a file of n rows after m bytes of notes
abbrev pub file_length : ℕ → ℕ → ℕ
file_length m n = m + distance_back n

-- codes 3 and 13, for a buffer of `room` bytes
abbrev pub RoomCheck : ℕ → ℕ → ℕ → Answer → Type 0
RoomCheck m n room =
    Refuses too_many_jobs (most_jobs < n) then Refuses no_room (room < file_length m n)

-- what holds of a buffer that is not refused
pub record Writable (m n room : ℕ) : Type 0 where
  pub few : n ≤ most_jobs
  pub fits : file_length m n ≤ room

pub record WritePromise (m : ℕ) (day : Day) (releases deadlines file : List ℕ) (a : Answer) (file-after : List ℕ) : Type 0 where
  pub answer : (RoomCheck m (length releases) (length file) then Passed) a
  pub accepted : a.code ≡ done → Stored m (rows_and_trailer day (windows releases deadlines)) file file-after
  pub refused : (a.code ≡ done → ⊥) → file-after ≡ file
