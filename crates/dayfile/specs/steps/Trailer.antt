-- The trailer in numbers: how it is judged, and what is given of it.
use Rattle.std.specs.Prelude.{ℕ, ◌<◌, ◌≤◌, ◌≡◌, List, length}
use Rattle.checks.specs.declared.Answer.{Answer}
use Rattle.checks.specs.Answer.{too_many_jobs, wrong_distance, cut_file, few_rows}
use Rattle.checks.specs.Refusal.{◌then◌, Refuses}
use Rattle.checks.specs.Check.{most_jobs}
use Rattle.dayfile.specs.declared.reader.Header.{Header}
use Rattle.dayfile.specs.Format.{distance_back, count_in, distance_in, file_day}

-- codes 3, 10, 11, 12, the end of `FileCheck`, by the numbers of the trailer
abbrev pub TrailerCheck : ℕ → ℕ → ℕ → ℕ → Answer → Type 0
TrailerCheck count distance end room =
    Refuses too_many_jobs (most_jobs < count)
    then Refuses wrong_distance (distance ≡ distance_back count → ⊥)
    then Refuses cut_file (end < distance)
    then Refuses few_rows (room < count)

-- what the reader gives beside the rows
abbrev pub file_header : List ℕ → Header
file_header file = record { count = count_in file; day = file_day file }

-- what holds of a file that is not refused
pub record GoodFile (file : List ℕ) (room : ℕ) : Type 0 where
  pub long : 10 ≤ length file
  pub distance : distance_in file ≡ distance_back (count_in file)
  pub whole : distance_in file ≤ length file
  pub enough : count_in file ≤ room
