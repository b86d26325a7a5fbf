-- The examples of reading, writing and planning a day file hold: each row's outcome is tested. Assumes nothing.
use Prim.Native.Nat.{ℕ, ◌+◌, ◌-◌, min}
use mathlib.Core.Path.{◌≡◌, refl}
use mathlib.Core.List.{List, [], ◌∷◌, ◌++◌}
use lib.ListN.{length, take, drop, replicate}
use Rattle.checks.specs.declared.Answer.{Answer}
use Rattle.day.specs.declared.Day.{Day}
use Rattle.day.specs.Windows.{Windows, windows, at}
use Rattle.day.specs.Plan.{taken}
use Rattle.day.specs.Gap.{price, asleep, ended, gaps_since, gaps, total, cost}
use Rattle.checks.specs.Zero.{zeroed}
use Rattle.checks.specs.Answer.{says, done}
use Rattle.checks.specs.Check.{most_jobs, ListCheck}
use Rattle.day.specs.Stored.{Stored}
use Rattle.claim.specs.Rows.{row_at, holds_job}
use Rattle.planner.specs.Table.{need}
use Rattle.ledger.proofs.CountedAs.{gain}
use Rattle.dayfile.specs.declared.reader.Reading.{Reading}
use Rattle.dayfile.specs.Bytes.{bytes_of, number_at}
use Rattle.dayfile.specs.Format.{
  row_bytes,
  rows_bytes,
  distance_back,
  trailer,
  rows_and_trailer,
  count_in,
  slots_in,
  wake_in,
  distance_in,
  HasMark,
  number_in_row,
  release_in,
  deadline_in,
  listed,
  file_day,
  file_windows,
}
use Rattle.dayfile.specs.Reader.{no_reading, FilledFrom, FileCheck, RowsRead, NothingRead, ReadPromise}
use Rattle.filewriter.specs.Writer.{file_length, RoomCheck}
use Rattle.ledger.specs.Promise.{no_counts, Ledgered}
use Rattle.report.specs.Outcome.{Outcome}
use Rattle.text.specs.declared.Text.{Text}
use Rattle.text.specs.Decimal.{digits, decimal}
use Rattle.text.specs.Lines.{spaced, plan_line, row_line, row_lines, slots_line, lines, Prints}
use Rattle.report.specs.File.{most_bytes, FilePlanCheck, InputPlanCheck, no_outcome, ListReported}
use Rattle.demands.specs.ExamplesTable.{Shown, releases_of, deadlines_of}
use Rattle.demands.specs.ExamplesOfLedger.{counts_of}
use Rattle.demands.specs.ExamplesOfFiles.{
  FileRead,
  ReadsTo,
  read_examples,
  ReadExamplesHold,
  FileWritten,
  WritesTo,
  written_examples,
  WrittenExamplesHold,
  FilePlan,
  ReportsTo,
  reported_examples,
  ReportedExamplesHold,
  bytes_in,
  PrintsAs,
  printed_examples,
  PrintedExamplesHold,
}
use Rattle.demands.proofs.Test.{
  Test,
  equal,
  both,
  through,
  by_equal,
  BothWays,
  is_less,
  is_equal,
  is_not,
  is_both,
  same_numbers,
  first_filled,
  all_in,
  all_with,
}
use Rattle.demands.proofs.ExamplesChecked.{shown_test, Judge, answers, judge_then, judge_whole, passed}
use Rattle.demands.proofs.Computed.{best_test, no_plan_test, judge_plan, planned}
use Rattle.demands.proofs.ExamplesOfLedger.{same_counts, ledger_test}
use Rattle.demands.proofs.OneOutcome.{one_outcome}

abbrev is_marked : (file : List ℕ) → BothWays (HasMark file)
is_marked file = is_both (is_equal (at file (length file - 2)) 80) (is_equal (at file (length file - 1)) 76)

abbrev judge_reader : (file : List ℕ) (room : ℕ) → Judge (FileCheck file room)
judge_reader file room =
    judge_then (judge_whole _ (is_less (length file) 10))
    (judge_then (judge_whole _ (is_not (is_marked file)))
    (judge_then (judge_whole _ (is_less most_jobs (count_in file)))
    (judge_then (judge_whole _ (is_not (is_equal (distance_in file) (distance_back (count_in file)))))
    (judge_then (judge_whole _ (is_less (length file) (distance_in file))) (judge_whole _ (is_less room (count_in file)))))))

abbrev filled_from : (n : ℕ) (f : ℕ → ℕ) (xs ys : List ℕ) → Test (FilledFrom n f xs ys)
filled_from n f = first_filled (λ i y. equal y (f i)) n

abbrev rows_read : (file releases deadlines : List ℕ) (r : Reading) (rs ds : List ℕ) → Test (RowsRead file releases deadlines r rs ds)
rows_read file releases deadlines r rs ds =
    through
    (λ t.
    record { count = t.0.0; slots = t.0.1.0; wake = t.0.1.1; first_releases = t.1.0; first_deadlines = t.1.1 })
    (both
    (both (equal r.count (count_in file))
    (both (equal r.day.slots (slots_in file)) (equal r.day.power.wake (wake_in file))))
    (both (filled_from (count_in file) (release_in file) releases rs) (filled_from (count_in file) (deadline_in file) deadlines ds)))

nothing_said : (r : Reading) → r.count ≡ 0 → r.day.slots ≡ 0 → r.day.power.wake ≡ 0 → r ≡ no_reading r.answer
nothing_said r n slots wake = rw (n, slots, wake)

abbrev nothing_read : (releases deadlines : List ℕ) (r : Reading) (rs ds : List ℕ) → Test (NothingRead releases deadlines r rs ds)
nothing_read releases deadlines r rs ds =
    through
    (λ t.
    record { reading = nothing_said r t.0.0 t.0.1.0 t.0.1.1; kept_releases = t.1.0; kept_deadlines = t.1.1 })
    (both (both (equal r.count 0) (both (equal r.day.slots 0) (equal r.day.power.wake 0)))
    (both (same_numbers rs releases) (same_numbers ds deadlines)))

abbrev read : (file releases deadlines : List ℕ) (r : Reading) (rs ds : List ℕ) → Test (ReadPromise file releases deadlines r rs ds)
read file releases deadlines r rs ds =
    through (λ t. record { answer = t.0; accepted = t.1.0; refused = t.1.1 })
    (both (answers (judge_reader file (min (length releases) (length deadlines))) passed r.answer)
    (by_equal r.answer.code done (rows_read file releases deadlines r rs ds) (nothing_read releases deadlines r rs ds)))

abbrev read_test : (r : FileRead) (after : Reading × List ℕ × List ℕ) → Test (ReadsTo r after)
read_test r after = read r.file (releases_of r.jobs) (deadlines_of r.jobs) after.0 after.1 after.2

pub read_examples_hold : ReadExamplesHold
unfolding read_examples number_at number_in_row
read_examples_hold =
    (all_in (shown_test (λ r. one_outcome.read r.file (releases_of r.jobs) (deadlines_of r.jobs)) read_test) read_examples).shows
    refl

abbrev judge_room : (m n room : ℕ) → Judge (RoomCheck m n room)
judge_room m n room = judge_then (judge_whole _ (is_less most_jobs n)) (judge_whole _ (is_less room (file_length m n)))

abbrev stored : (place : ℕ) (bytes file after : List ℕ) → Test (Stored place bytes file after)
stored place bytes file after =
    through (λ e. record { between = e }) (same_numbers after (take place file ++ bytes ++ drop (place + length bytes) file))

abbrev written_test : (w : FileWritten) (after : Answer × List ℕ) → Test (WritesTo w after)
written_test w after =
    through (λ t. record { answer = t.0; accepted = t.1.0; refused = t.1.1 })
    (both (answers (judge_room w.notes (length (releases_of w.jobs)) (length w.buffer)) passed after.0)
    (by_equal after.0.code done
    (stored w.notes (rows_and_trailer w.day (windows (releases_of w.jobs) (deadlines_of w.jobs))) w.buffer after.1)
    (same_numbers after.1 w.buffer)))

pub written_examples_hold : WrittenExamplesHold
unfolding written_examples rows_and_trailer rows_bytes row_bytes trailer bytes_of
written_examples_hold =
    (all_in
    (shown_test (λ w. one_outcome.write w.notes w.day (releases_of w.jobs) (deadlines_of w.jobs) w.buffer) written_test)
    written_examples).shows
    refl

abbrev judge_file : (file starts table : List ℕ) → Judge (FilePlanCheck file starts table)
judge_file file starts table = judge_then (judge_reader file most_jobs) (judge_plan (file_day file) (file_windows file) starts table)

abbrev judge_input : (file starts table : List ℕ) → Judge (InputPlanCheck file starts table)
judge_input file starts table = judge_then (judge_whole _ (is_less most_bytes (length file))) (judge_file file starts table)

nothing_planned : (o : Outcome) → o.count ≡ 0 → o.counts ≡ no_counts → o ≡ no_outcome o.answer
nothing_planned o n counts = rw (n, counts)

-- a plan has its rows and its ledger, a refusal neither
abbrev rows_and_counts : (day : Day) (w : Windows) (starts : List ℕ) (o : Outcome)
    → Test ((o.answer.code ≡ done → (o.count ≡ w.count) × Ledgered (ListCheck day w) day w starts (record { answer = says done 0 0; counts = o.counts }))
    × ((o.answer.code ≡ done → ⊥) → o ≡ no_outcome o.answer))
rows_and_counts day w starts o =
    by_equal o.answer.code done
    (both (equal o.count w.count) (ledger_test (asleep day.power) day w starts (record { answer = says done 0 0; counts = o.counts })))
    (through (λ t. nothing_planned o t.0 t.1) (both (equal o.count 0) (same_counts o.counts no_counts)))

abbrev reported : {Check : Answer → Type 0} → Judge Check → (day : Day) (w : Windows) (starts table : List ℕ) (o : Outcome) (starts_after table_after : List ℕ)
    → Test (ListReported Check day w starts table o starts_after table_after)
reported judge day w starts table o starts_after table_after =
    through (λ t. record { plan = t.0; count = λ e. (t.1.0 e).0; counts = λ e. (t.1.0 e).1; refused = t.1.1 })
    (both (planned judge (need day.slots w.count) day w starts table o.answer starts_after table_after)
    (rows_and_counts day w starts_after o))

abbrev report_test : (p : FilePlan) (after : Outcome × List ℕ × List ℕ) → Test (ReportsTo p after)
report_test p after =
    reported (judge_file p.file p.starts p.table) (file_day p.file) (file_windows p.file) p.starts p.table after.0 after.1
    after.2

pub reported_examples_hold : ReportedExamplesHold
unfolding reported_examples number_at number_in_row listed need zeroed best_test no_plan_test cost price total gaps gaps_since ended taken gain holds_job row_at asleep
reported_examples_hold =
    (all_in (shown_test (λ p. one_outcome.plan_file p.file p.starts p.table) report_test) reported_examples).shows refl

abbrev printed : (bytes : List ℕ) (text : Text) → Test (Prints bytes text)
printed bytes text =
    through (λ t. record { len = t.0; holds = t.1 })
    (both (equal text.len (length bytes)) (same_numbers text.bytes (bytes ++ replicate (512 - length bytes) 0)))

-- the outcome that is printed, and the starts
abbrev Planning : Type 0
Planning = Outcome × List ℕ

abbrev print_test : (planning : Planning) (row : (List ℕ × ℕ) × (Text × List ℕ)) → Test (Shown PrintsAs row)
print_test planning =
    shown_test (λ lent. one_outcome.report lent.0 (replicate lent.1 0))
    (λ lent after.
    through (λ t. record { outcome = planning.0; starts = planning.1; reported = t.0; prints = t.1 })
    (both
    (reported (judge_input lent.0 (replicate most_jobs 0) (replicate lent.1 0)) (file_day lent.0) (file_windows lent.0)
    (replicate most_jobs 0) (replicate lent.1 0) planning.0 planning.1 after.1)
    (printed (lines planning.0.answer planning.0.count (at planning.1) planning.0.counts) after.0)))

abbrev refusal : ℕ → ℕ → Planning
refusal code first = (no_outcome (says code first 0), replicate most_jobs 0)

plannings : List Planning
plannings =
    (record { answer = says 0 4 0; count = 3; counts = counts_of 0 3 1 6 0 }, 0 ∷ 7 ∷ 9 ∷ replicate 37 0)
    ∷ (record { answer = says 0 0 0; count = 0; counts = counts_of 1 0 0 0 0 }, replicate 40 0)
    ∷ refusal 6 0
    ∷ refusal 7 0
    ∷ refusal 4 1
    ∷ refusal 8 0
    ∷ refusal 17 0
    ∷ refusal 9 0
    ∷ []

pub printed_examples_hold : PrintedExamplesHold
unfolding printed_examples plannings bytes_in lines plan_line row_line row_lines slots_line spaced decimal digits number_at number_in_row listed need zeroed best_test no_plan_test cost price total gaps gaps_since ended taken gain holds_job row_at asleep
printed_examples_hold = (all_with print_test plannings printed_examples).shows refl
