-- What is promised of rows that are put over a list is promised of the list. Assumes nothing.
use Prim.Native.Nat.{ℕ, ◌<◌, ◌≤◌, min}
use mathlib.Core.Path.{◌≡◌, refl, sym, ◌∙◌}
use mathlib.Core.List.{List, ◌++◌}
use native.Mathlib.Omega.{arith}
use native.Mathlib.Nat.{min-eq_left}
use borrow.Author.Tests.{lt-ltb, le-ltb}
use lib.ListN.{length, take, drop, length-map}
use lib.IntN.{ℤ}
use lib.Seq.{get_or-take, length-take-le, take_at}
use Rattle.checks.specs.declared.Answer.{Answer}
use Rattle.day.specs.declared.Job.{Job}
use Rattle.day.specs.Windows.{Windows, windows}
use Rattle.checks.specs.Answer.{done}
use Rattle.checks.specs.Check.{most_jobs, TimesCheck}
use Rattle.checks.specs.Refusal.{◌then◌, stops, goes_on, Passed}
use Rattle.day.proofs.Cases.{give, on_le}
use Rattle.checks.proofs.Check.{times_is_check}
use Rattle.moving.specs.Moving.{MoveCheck, RowsMoved, MovePromise}
use Rattle.moving.proofs.Moving.{move_is_check}
use Rattle.dayfile.specs.declared.reader.Reading.{Reading}
use Rattle.dayfile.specs.Format.{count_in}
use Rattle.dayfile.specs.Reader.{FileCheck, RowsRead, ReadPromise}
use Rattle.dayfile.proofs.Accepted.{good_file}
use Rattle.checks.proofs.Refusal.{no_fault}
use Rattle.rows.specs.declared.Rows.{Rows}
use Rattle.rows.specs.Rows.{rows_of, put_count, put_over, zeros}
use Rattle.rows.specs.steps.InRows.{releases_in, deadlines_in}
use Rattle.rows.specs.Columns.{releases, deadlines}
use Rattle.rows.proofs.Copied.{few_count, few_releases, few_deadlines, many_rows, rows_fit, list_promised}
use Rattle.rows.proofs.PutOver.{put_few, put_within, put_filled}
use Rattle.checks.proofs.TooMany.{Alike, alike_stops, alike_first, map_next, times_alike}

moves_alike : (slots : ℕ) (by : ℤ) (w v : Windows) → most_jobs < w.count → most_jobs < v.count → Alike (MoveCheck (TimesCheck slots w) slots by w) (MoveCheck (TimesCheck slots v) slots by v)
moves_alike slots by w v many other = alike_first (times_alike w v many other slots)

-- a list whose rows are moved and all put back is moved
put_moved : (by : ℤ) (jobs : List Job) (rows : Rows) → rows.count ≡ length jobs → length jobs ≤ most_jobs → RowsMoved by (releases jobs) (deadlines jobs) (releases_in rows) (deadlines_in rows)
    → RowsMoved by (releases jobs) (deadlines jobs) (releases (put_over jobs rows)) (deadlines (put_over jobs rows))
put_moved by jobs rows count few moved =
    let whole : rows.count ≡ length (releases jobs) = count ∙ sym (length-map jobs (λ job. job.release)) in
    record {
      moved_releases = put_filled jobs rows (λ job. job.release) whole (omega arith) (omega arith) (λ i l. rw (sym (get_or-take rows.count rows.releases i 0 (omega arith))) (moved.moved_releases.inside i l));
      moved_deadlines = put_filled jobs rows (λ job. job.deadline) whole (omega arith) (omega arith) (λ i l. rw (sym (get_or-take rows.count rows.deadlines i 0 (omega arith))) (moved.moved_deadlines.inside i l));
    }

-- rows whose columns are written in place
abbrev pub with_columns : Rows → List ℕ → List ℕ → Rows
with_columns rows first second =
    record {
      count = rows.count;
      releases = first ++ drop rows.count rows.releases;
      deadlines = second ++ drop rows.count rows.deadlines;
    }

-- the copied rows of a list, moved
module _ (jobs : List Job) {slots : ℕ} {by : ℤ} {a : Answer} {first second : List ℕ}
    (p : MovePromise slots by (releases_in (rows_of 0 jobs)) (deadlines_in (rows_of 0 jobs)) a first second) where
  moved_checked : (MoveCheck (TimesCheck slots (windows (releases jobs) (deadlines jobs))) slots by (windows (releases jobs) (deadlines jobs)) then Passed) a
  moved_checked =
      list_promised jobs (λ xs ys. (MoveCheck (TimesCheck slots (windows xs ys)) slots by (windows xs ys) then Passed) a)
      (λ xs ys xs' ys' h l. (alike_first (moves_alike slots by (windows xs ys) (windows xs' ys') h l)).same a) p.answer

  -- more than 40 rows are not moved
  few : a.code ≡ done → length jobs ≤ most_jobs
  few e =
      on_le (length jobs) most_jobs (λ h. h)
      (λ h.
      let w : Windows = windows (releases_in (rows_of 0 jobs)) (deadlines_in (rows_of 0 jobs)) in
      absurd ((move_is_check times_is_check slots by w).not_done a
      (alike_stops (moves_alike slots by w w (many_rows jobs h) (many_rows jobs h)) a p.answer) e))

  -- the columns that were moved are those of the rows that are put back
  columns_moved : a.code ≡ done → RowsMoved by (releases_in (rows_of 0 jobs)) (deadlines_in (rows_of 0 jobs))
      (releases_in (with_columns (rows_of 0 jobs) first second))
      (deadlines_in (with_columns (rows_of 0 jobs) first second))
  columns_moved e =
      give (p.accepted e) (λ m.
      rw (
        take_at first (drop (rows_of 0 jobs).count (rows_of 0 jobs).releases) (rows_of 0 jobs).count (m.moved_releases.long ∙ length-take-le (rows_of 0 jobs).count (rows_of 0 jobs).releases (rows_fit 0 jobs refl).releases),
        take_at second (drop (rows_of 0 jobs).count (rows_of 0 jobs).deadlines) (rows_of 0 jobs).count (m.moved_deadlines.long ∙ length-take-le (rows_of 0 jobs).count (rows_of 0 jobs).deadlines (rows_fit 0 jobs refl).deadlines),
      ) m)

  all_moved : a.code ≡ done → MovePromise slots by (releases jobs) (deadlines jobs) a (releases (put_over jobs (with_columns (rows_of 0 jobs) first second)))
      (deadlines (put_over jobs (with_columns (rows_of 0 jobs) first second)))
  all_moved e =
      record {
        answer = moved_checked;
        accepted = λ _.
            give (few e) (λ h.
            put_moved by jobs (with_columns (rows_of 0 jobs) first second) (few_count jobs h) h
            (rw (sym (few_releases jobs h), sym (few_deadlines jobs h)) (columns_moved e)));
        refused = λ h. absurd (h e);
      }

  none_moved : (a.code ≡ done → ⊥) → MovePromise slots by (releases jobs) (deadlines jobs) a (releases jobs) (deadlines jobs)
  none_moved h = record { answer = moved_checked; accepted = λ e. absurd (h e); refused = λ _. (refl, refl) }

module _ (jobs : List Job) {slots : ℕ} {by shift : ℤ} (same : shift ≡ by) {rows : Rows} (copied : rows ≡ rows_of 0 jobs) {a : Answer} {first second : List ℕ}
    (p : MovePromise slots shift (releases_in rows) (deadlines_in rows) a first second) where
  pub list_moved : a.code ≡ done
      → MovePromise slots by (releases jobs) (deadlines jobs) a (releases (put_over jobs (with_columns rows first second))) (deadlines (put_over jobs (with_columns rows first second)))
  list_moved e = rw copied (all_moved jobs (rw (same, copied) at p) e)

  pub list_not_moved : (a.code ≡ done → ⊥) → MovePromise slots by (releases jobs) (deadlines jobs) a (releases jobs) (deadlines jobs)
  list_not_moved h = none_moved jobs (rw (same, copied) at p) h

-- ---- a list that a file is read into
-- how many places for rows a list with some room takes, and those places before a file is read
abbrev pub places : ℕ → ℕ
places room = put_count room 41

abbrev pub empty_places : ℕ → List ℕ
empty_places room = take (places room) zeros

-- the columns that were read, cut to the places that they were read into
pub read_columns : {file : List ℕ} (room : ℕ) {p : ℕ} {r : Reading} {first second : List ℕ} → p ≡ places room → length first ≡ length (take p zeros) → length second ≡ length (take p zeros)
    → ReadPromise file (take p zeros) (take p zeros) r first second
    → ReadPromise file (empty_places room) (empty_places room) r (take (places room) (first ++ drop p zeros)) (take (places room) (second ++ drop p zeros))
read_columns {file} room {p} {r} {first} {second} e long-first long-second read =
    rw (sym e) (
    let long : length (take p zeros) ≡ p = length-take-le p zeros (put_few room 41 p e) in
    rw (take_at first (drop p zeros) p (long-first ∙ long), take_at second (drop p zeros) p (long-second ∙ long)) read)

-- a file of at most 40 rows finds room alike in the list and in the places of the rows by value
few_alike : (file : List ℕ) (room other : ℕ) → (count_in file ≤ most_jobs → room < count_in file → other < count_in file) → (a : Answer) → FileCheck file room a → FileCheck file other a
few_alike file room other there =
    map_next (λ _. map_next (λ _. map_next (λ clear. map_next (λ _. map_next (λ _ a p.
    record { fault = there (on_le (count_in file) most_jobs (λ h. h) (λ h. absurd (no_fault clear h))) p.fault; says = p.says })))))

room_alike : (file : List ℕ) (room other : ℕ) → (count_in file ≤ most_jobs → room < count_in file → other < count_in file) → (other < count_in file → room < count_in file)
    → (a : Answer) → (FileCheck file room then Passed) a → (FileCheck file other then Passed) a
room_alike file room other there back a (stops p) = stops (few_alike file room other there a p)
room_alike file room other there back a (goes_on clear p) = goes_on (λ b r. clear b (few_alike file other room (λ _. back) b r)) p

places_enough : (n c : ℕ) → c ≤ most_jobs → places n < c → n < c
places_enough n c h = on_le 41 n (λ l. rw (le-ltb n 41 l) (λ z. absurd (omega arith))) (λ l. rw (lt-ltb n 41 l) (λ z. z))

-- a file read into those places
module _ (jobs : List Job) {file : List ℕ} {reading : Reading} {first second : List ℕ}
    (p : ReadPromise file (empty_places (length jobs)) (empty_places (length jobs)) reading first second) where
  -- the room that the reader saw, and the list's
  seen : min (length (empty_places (length jobs))) (length (empty_places (length jobs))) ≡ places (length jobs)
  seen = min-eq_left (omega arith) ∙ length-take-le (places (length jobs)) zeros (put_few (length jobs) 41 (places (length jobs)) refl)

  own : min (length (releases jobs)) (length (deadlines jobs)) ≡ length jobs
  own = rw (length-map jobs (λ job. job.release), length-map jobs (λ job. job.deadline)) (min-eq_left (omega arith))

  read_checked : (FileCheck file (min (length (releases jobs)) (length (deadlines jobs))) then Passed) reading.answer
  read_checked = rw own (room_alike file (places (length jobs)) (length jobs) (places_enough (length jobs) (count_in file)) (λ h. omega (arith, put_within (length jobs) 41 (places (length jobs)) refl)) reading.answer (rw seen at p.answer))

  pub list_not_read : (reading.answer.code ≡ done → ⊥) → ReadPromise file (releases jobs) (deadlines jobs) reading (releases jobs) (deadlines jobs)
  list_not_read h =
      record {
        answer = read_checked;
        accepted = λ e. absurd (h e);
        refused = λ _. record { reading = (p.refused h).reading; kept_releases = refl; kept_deadlines = refl };
      }

-- rows that were read into those places, and are put back
module _ (jobs : List Job) {file : List ℕ} {reading : Reading} (rows : Rows) (counted : rows.count ≡ reading.count)
    (p : ReadPromise file (empty_places (length jobs)) (empty_places (length jobs)) reading (take (places (length jobs)) rows.releases) (take (places (length jobs)) rows.deadlines))
    (e : reading.answer.code ≡ done) where
  abbrev after_read : List Job
  after_read = put_over jobs rows

  rows_read : RowsRead file (releases jobs) (deadlines jobs) reading (releases after_read) (deadlines after_read)
  rows_read =
      give (p.accepted e) (λ read.
      give (counted ∙ read.count) (λ count.
      give (good_file e p.answer).enough (λ enough.
      let inside : rows.count ≤ places (length jobs) = omega (arith, seen jobs p) in
      let few : count_in file ≤ 41 = omega (arith, put_few (length jobs) 41 (places (length jobs)) refl) in
      let room : count_in file ≤ length jobs = omega (arith, put_within (length jobs) 41 (places (length jobs)) refl) in
      record {
        count = read.count;
        slots = read.slots;
        wake = read.wake;
        first_releases = put_filled jobs rows (λ job. job.release) count few room (λ i l. sym (get_or-take (places (length jobs)) rows.releases i 0 (omega arith)) ∙ read.first_releases.inside i l);
        first_deadlines = put_filled jobs rows (λ job. job.deadline) count few room (λ i l. sym (get_or-take (places (length jobs)) rows.deadlines i 0 (omega arith)) ∙ read.first_deadlines.inside i l);
      })))

  pub list_read : ReadPromise file (releases jobs) (deadlines jobs) reading (releases after_read) (deadlines after_read)
  list_read = record { answer = read_checked jobs p; accepted = λ _. rows_read; refused = λ h. absurd (h e) }
