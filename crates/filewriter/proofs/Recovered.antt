-- Reading undoes writing: of a file that the writer wrote, whatever the notes before it, the reader gives what was written. Assumes nothing.
use Prim.Native.Nat.{ℕ, ◌+◌, ◌*◌, ◌-◌, ◌<◌, ◌≤◌}
use mathlib.Core.Path.{◌≡◌, ◌∙◌}
use mathlib.Core.List.{List}
use native.Mathlib.Nat.{add-zero}
use native.Mathlib.Omega.{arith}
use lib.ListN.{length, take}
use lib.Seq.{length-take-le}
use Rattle.checks.specs.declared.Answer.{Answer}
use Rattle.day.specs.declared.Day.{Day}
use Rattle.checks.specs.Answer.{says, done}
use Rattle.day.specs.Windows.{Windows, windows}
use Rattle.checks.specs.Refusal.{◌then◌, Passed}
use Rattle.checks.specs.Check.{most_jobs}
use Rattle.day.specs.Stored.{Stored}
use Rattle.day.proofs.Cases.{give}
use Rattle.checks.proofs.Refusal.{code_of, then_clear, then_next}
use Rattle.day.proofs.Changed.{changed_as}
use Rattle.dayfile.specs.declared.reader.Reading.{Reading}
use Rattle.dayfile.specs.Format.{rows_bytes, rows_and_trailer, distance_back, count_in, slots_in, wake_in, distance_in, HasMark, release_in, deadline_in}
use Rattle.dayfile.specs.Reader.{FileCheck, ReadPromise}
use Rattle.filewriter.specs.Writer.{file_length, Writable, WritePromise}
use Rattle.filewriter.specs.Recovered.{Recovered}
use Rattle.filewriter.proofs.Format.{length_rows_bytes, length_rows_and_trailer}
use Rattle.dayfile.proofs.RowsRead.{day_ext}
use Rattle.day.proofs.Stored.{stored_length}
use Rattle.filewriter.proofs.Stands.{Stands, stored_stands, stands_first, stands_next, rows_stand, trailer_stands}
use Rattle.filewriter.proofs.Accepted.{writable}

-- what a file says in which rows and trailer stand last
pub record Says (file : List ℕ) (day : Day) (w : Windows) : Type 0 where
  pub long : distance_back w.count ≤ length file
  pub count : count_in file ≡ w.count
  pub slots : slots_in file ≡ day.slots
  pub wake : wake_in file ≡ day.power.wake
  pub distance : distance_in file ≡ distance_back w.count
  pub marked : HasMark file
  pub release : (i : ℕ) → i < w.count → release_in file i ≡ w.release i
  pub deadline : (i : ℕ) → i < w.count → deadline_in file i ≡ w.deadline i

says_of_bytes : {file : List ℕ} {day : Day} {w : Windows} (m : ℕ) → length file ≡ file_length m w.count
    → Stands file m (rows_and_trailer day w) → Says file day w
unfolding rows_and_trailer
says_of_bytes {file} {day} {w} m e p =
    let rows-here : Stands file m (rows_bytes w w.count) = stands_first (rows_bytes w w.count) _ p in
    let from_end : (k : ℕ) → k ≤ 10 → length file - k ≡ m + 4 * w.count + (10 - k) = λ k h. omega arith in
    give (trailer_stands w.count day (stands_next (rows_bytes w w.count) _ (4 * w.count) p (length_rows_bytes w w.count)))
    (λ t.
    let distance-here : distance_in file ≡ distance_back w.count = rw (from_end 4 (omega arith)) t.distance in
    let first : length file - distance_in file ≡ m = omega arith in
    record {
      long = omega arith;
      count = rw (from_end 10 (omega arith), add-zero) t.count;
      slots = rw (from_end 8 (omega arith)) t.slots;
      wake = rw (from_end 6 (omega arith)) t.wake;
      distance = distance-here;
      marked = (rw (from_end 2 (omega arith)) t.first_mark, rw (from_end 1 (omega arith)) t.second_mark);
      release = λ i h. rw first (rows_stand w w.count i h rows-here).0;
      deadline = λ i h. rw first (rows_stand w w.count i h rows-here).1;
    })

-- the reader has nothing to refuse in such a file
says_accepted : {file : List ℕ} {day : Day} {w : Windows} {room : ℕ} (a : Answer) → Says file day w → w.count ≤ most_jobs → w.count ≤ room
    → (FileCheck file room then Passed) a → a ≡ says done 0 0
says_accepted a s few enough =
    then_next
    (then_clear (λ b r. omega (arith, s.long, r.fault))
    (then_clear (λ b r. r.fault s.marked)
    (then_clear (λ b r. omega (arith, s.count, r.fault))
    (then_clear (λ b r. r.fault (omega (arith, s.count, s.distance)))
    (then_clear (λ b r. omega (arith, s.long, s.distance, r.fault)) (λ b r. omega (arith, s.count, r.fault)))))))
    a

-- for every list that the writer accepts, and any notes: where the reader has the room it answers 0, with the list, T and L that were written
pub reading_undoes_writing : {m : ℕ} {day : Day} {releases deadlines file file-after xs ys xs-after ys-after : List ℕ} {a : Answer} {r : Reading}
    → WritePromise m day releases deadlines file a file-after → a.code ≡ done → length releases ≤ length xs → length releases ≤ length ys
    → ReadPromise (take (file_length m (length releases)) file-after) xs ys r xs-after ys-after
    → Recovered day releases deadlines xs ys r xs-after ys-after
reading_undoes_writing {m} {day} {releases} {deadlines} {file} {file-after} {xs} {ys} {xs-after} {ys-after} {a} {r} written e hx hy read =
    give (writable e written.answer)
    (λ room.
    give (file_says room)
    (λ s.
    give (says_accepted r.answer s room.few (omega arith) read.answer)
    (λ accepted.
    give (read.accepted (code_of accepted))
    (λ given.
    record {
      answer = accepted;
      count = given.count ∙ s.count;
      same_day = day_ext r.day day (given.slots ∙ s.slots) (given.wake ∙ s.wake);
      same_releases = changed_as (λ i h. omega (arith, s.count)) (λ i h. omega (arith, s.count)) (λ i y h p. p ∙ s.release i h) given.first_releases;
      same_deadlines = changed_as (λ i h. omega (arith, s.count)) (λ i h. omega (arith, s.count)) (λ i y h p. p ∙ s.deadline i h) given.first_deadlines;
    }))))
  where
    file_says : Writable m (length releases) (length file) → Says (take (file_length m (length releases)) file-after) day (windows releases deadlines)
    file_says room =
        let whole : ℕ = file_length m (length releases) in
        let bytes : length (rows_and_trailer day (windows releases deadlines)) ≡ distance_back (length releases) =
        length_rows_and_trailer day (windows releases deadlines)
        in
        let stored : Stored m (rows_and_trailer day (windows releases deadlines)) file file-after = written.accepted e in
        let kept : length file-after ≡ length file = stored_length (omega arith) stored in
        says_of_bytes m (length-take-le whole file-after (omega arith)) (stored_stands whole (omega arith) (omega arith) stored)
