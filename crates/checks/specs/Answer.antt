-- Answers, and the codes by name; what a refusal, and what an outcome that may be one, is as an answer.
use Rattle.std.specs.Prelude.{ℕ, ⊤, Result, Ok, Err}
use Rattle.checks.specs.declared.Answer.{Answer}
use Rattle.checks.specs.declared.outcome.Refusal.{Refusal}
use Rattle.checks.specs.declared.outcome.Refusal.TheVariants.{BadSlots, BadWake, TooManyJobs, BadRow, FewStarts, ShortTable, NoPlan, ShortFile, WrongMark, WrongDistance, CutFile, FewRows, NoRoom, OutsideWindow, SameStart, NeitherProper, LongInput, LeavesDay, NoSuchSlot, DayOver, PlanExists}

abbrev pub says : ℕ → ℕ → ℕ → Answer
says code first second = record { code = code; first = first; second = second }

abbrev pub done : ℕ
done = 0

abbrev pub bad_slots : ℕ
bad_slots = 1

abbrev pub bad_wake : ℕ
bad_wake = 2

abbrev pub too_many_jobs : ℕ
too_many_jobs = 3

abbrev pub bad_row : ℕ
bad_row = 4

abbrev pub few_starts : ℕ
few_starts = 5

abbrev pub short_table : ℕ
short_table = 6

abbrev pub no_plan : ℕ
no_plan = 7

abbrev pub short_file : ℕ
short_file = 8

abbrev pub wrong_mark : ℕ
wrong_mark = 9

abbrev pub wrong_distance : ℕ
wrong_distance = 10

abbrev pub cut_file : ℕ
cut_file = 11

abbrev pub few_rows : ℕ
few_rows = 12

abbrev pub no_room : ℕ
no_room = 13

abbrev pub outside_window : ℕ
outside_window = 14

abbrev pub same_start : ℕ
same_start = 15

abbrev pub neither_proper : ℕ
neither_proper = 16

abbrev pub long_input : ℕ
long_input = 17

abbrev pub leaves_day : ℕ
leaves_day = 18

abbrev pub no_such_slot : ℕ
no_such_slot = 19

abbrev pub day_over : ℕ
day_over = 20

abbrev pub plan_exists : ℕ
plan_exists = 21

-- document 01's number and values for each refusal
abbrev pub refused : Refusal → Answer
refused BadSlots = says bad_slots 0 0
refused BadWake = says bad_wake 0 0
refused TooManyJobs = says too_many_jobs 0 0
refused (BadRow row) = says bad_row row 0
refused FewStarts = says few_starts 0 0
refused ShortTable = says short_table 0 0
refused NoPlan = says no_plan 0 0
refused ShortFile = says short_file 0 0
refused WrongMark = says wrong_mark 0 0
refused WrongDistance = says wrong_distance 0 0
refused CutFile = says cut_file 0 0
refused FewRows = says few_rows 0 0
refused NoRoom = says no_room 0 0
refused (OutsideWindow row) = says outside_window row 0
refused (SameStart row partner) = says same_start row partner
refused NeitherProper = says neither_proper 0 0
refused LongInput = says long_input 0 0
refused (LeavesDay row) = says leaves_day row 0
refused NoSuchSlot = says no_such_slot 0 0
refused DayOver = says day_over 0 0
refused PlanExists = says plan_exists 0 0

-- what an outcome is as an answer, where what is done has a first number
abbrev pub answered_by : {A : Type 0} → (A → ℕ) → Result A Refusal → Answer
answered_by first (Ok outcome) = says done (first outcome) 0
answered_by first (Err refusal) = refused refusal

-- of an outcome that is a first number, as a cost
abbrev pub answered : Result ℕ Refusal → Answer
answered = answered_by (λ first. first)

-- of an outcome without a number
abbrev pub checked : Result ⊤ Refusal → Answer
checked = answered_by (λ _. 0)
