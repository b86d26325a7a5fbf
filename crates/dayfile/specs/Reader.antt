-- What the reader promises. T, L and windows are not judged, and the notes are not looked at.
use Rattle.std.specs.Prelude.{ℕ, ◌<◌, min, ◌≡◌, List, length, Result, Ok, Err}
use Rattle.checks.specs.declared.Answer.{Answer}
use Rattle.checks.specs.declared.outcome.Refusal.{Refusal}
use Rattle.checks.specs.Answer.{says, done, refused, too_many_jobs, short_file, wrong_mark, wrong_distance, cut_file, few_rows}
use Rattle.checks.specs.Refusal.{◌then◌, Refuses, Passed}
use Rattle.checks.specs.Check.{most_jobs}
use Rattle.day.specs.Changed.{FirstFilled}
use Rattle.dayfile.specs.declared.reader.Header.{Header}
use Rattle.dayfile.specs.declared.reader.Reading.{Reading}
use Rattle.dayfile.specs.Format.{distance_back, count_in, slots_in, wake_in, distance_in, HasMark, release_in, deadline_in}

-- under a refusal n, T and L are 0
abbrev pub no_reading : Answer → Reading
no_reading answer = record { answer = answer; count = 0; day = record { slots = 0; power = record { wake = 0 } } }

-- the reader's outcome as a reading
abbrev pub as_reading : Result Header Refusal → Reading
as_reading (Ok header) = record { answer = says done 0 0; count = header.count; day = header.day }
as_reading (Err refusal) = no_reading (refused refusal)

-- new is old with the first n places filled from f
abbrev pub FilledFrom : ℕ → (ℕ → ℕ) → List ℕ → List ℕ → Type 0
FilledFrom n f = FirstFilled n (λ i y. y ≡ f i)

-- codes 8, 9, 3, 10, 11, 12, for a reader with room for `room` rows
abbrev pub FileCheck : List ℕ → ℕ → Answer → Type 0
FileCheck file room =
    Refuses short_file (length file < 10)
    then Refuses wrong_mark (HasMark file → ⊥)
    then Refuses too_many_jobs (most_jobs < count_in file)
    then Refuses wrong_distance (distance_in file ≡ distance_back (count_in file) → ⊥)
    then Refuses cut_file (length file < distance_in file)
    then Refuses few_rows (room < count_in file)

-- what an accepted file gives: n, T and L, and its rows in the first n places of the two lists
pub record RowsRead (file releases deadlines : List ℕ) (r : Reading) (releases-after deadlines-after : List ℕ) : Type 0 where
  pub count : r.count ≡ count_in file
  pub slots : r.day.slots ≡ slots_in file
  pub wake : r.day.power.wake ≡ wake_in file
  pub first_releases : FilledFrom (count_in file) (release_in file) releases releases-after
  pub first_deadlines : FilledFrom (count_in file) (deadline_in file) deadlines deadlines-after

-- what a refused file gives: nothing
pub record NothingRead (releases deadlines : List ℕ) (r : Reading) (releases-after deadlines-after : List ℕ) : Type 0 where
  pub reading : r ≡ no_reading r.answer
  pub kept_releases : releases-after ≡ releases
  pub kept_deadlines : deadlines-after ≡ deadlines

pub record ReadPromise (file releases deadlines : List ℕ) (r : Reading) (releases-after deadlines-after : List ℕ) : Type 0 where
  pub answer : (FileCheck file (min (length releases) (length deadlines)) then Passed) r.answer
  pub accepted : r.answer.code ≡ done → RowsRead file releases deadlines r releases-after deadlines-after
  pub refused : (r.answer.code ≡ done → ⊥) → NothingRead releases deadlines r releases-after deadlines-after
