-- Demand 2, the day file: for every list that the writer accepts, after any notes, reading gives back what was written.
use Rattle.std.specs.Prelude.{ℕ, ◌≤◌, ◌≡◌, List, length, take}
use Rattle.checks.specs.declared.Answer.{Answer}
use Rattle.day.specs.declared.Day.{Day}
use Rattle.checks.specs.Answer.{done}
use Rattle.dayfile.specs.declared.reader.Reading.{Reading}
use Rattle.dayfile.specs.Reader.{ReadPromise}
use Rattle.filewriter.specs.Writer.{file_length, WritePromise}
use Rattle.filewriter.specs.Recovered.{Recovered}

-- a list is written after the first `notes` bytes of a lent buffer
pub record Writing : Type 0 where
  pub notes : ℕ
  pub day : Day
  pub releases : List ℕ
  pub deadlines : List ℕ
  pub buffer : List ℕ
  -- what comes back, and the buffer afterwards
  pub answer : Answer
  pub buffer_after : List ℕ

-- it keeps the writer's promise, and is accepted
pub record Wrote (w : Writing) : Type 0 where
  pub promised : WritePromise w.notes w.day w.releases w.deadlines w.buffer w.answer w.buffer_after
  pub accepted : w.answer.code ≡ done

-- the file
abbrev pub file : Writing → List ℕ
file w = take (file_length w.notes (length w.releases)) w.buffer_after

-- whoever keeps the reader's promise and has the room reads what was written
abbrev pub ReadsBack : Type 0
ReadsBack =
    (w : Writing) → Wrote w
    → (releases deadlines : List ℕ) (reading : Reading) (releases-after deadlines-after : List ℕ)
    → length w.releases ≤ length releases
    → length w.releases ≤ length deadlines
    → ReadPromise (file w) releases deadlines reading releases-after deadlines-after
    → Recovered w.day w.releases w.deadlines releases deadlines reading releases-after deadlines-after
