-- The checks that entry points share, each in its place of their order.
use Rattle.std.specs.Prelude.{ℕ, ◌≤◌, ◌<◌, ◌≡◌, ◌⊎◌}
use Rattle.day.specs.declared.Power.{Power}
use Rattle.day.specs.declared.Day.{Day}
use Rattle.day.specs.Windows.{Windows}
use Rattle.checks.specs.declared.Answer.{Answer}
use Rattle.checks.specs.Answer.{bad_slots, bad_wake, too_many_jobs, bad_row}
use Rattle.checks.specs.Refusal.{◌then◌, Refuses, RefusesRow}

-- the limits of document 01
abbrev pub most_slots : ℕ
most_slots = 96

abbrev pub most_wake : ℕ
most_wake = 1000

abbrev pub most_jobs : ℕ
most_jobs = 40

abbrev pub SlotsCheck : ℕ → ℕ → Answer → Type 0
SlotsCheck limit slots = Refuses bad_slots ((slots ≡ 0) ⊎ (limit < slots))

abbrev pub PowerCheck : Power → Answer → Type 0
PowerCheck power = Refuses bad_wake (most_wake < power.wake)

abbrev pub CountCheck : ℕ → Windows → Answer → Type 0
CountCheck limit w = Refuses too_many_jobs (limit < w.count)

-- a row with r ≥ d or d > T
abbrev pub BadRow : ℕ → Windows → ℕ → Type 0
BadRow slots w i = (w.deadline i ≤ w.release i) ⊎ (slots < w.deadline i)

abbrev pub RowsCheck : ℕ → Windows → Answer → Type 0
RowsCheck slots w = RefusesRow bad_row w.count (BadRow slots w)

-- codes 3 and 4
abbrev pub JobsCheck : ℕ → ℕ → Windows → Answer → Type 0
JobsCheck limit slots w = CountCheck limit w then RowsCheck slots w

-- codes 1, 3 and 4, with the limits of document 01: a day's length and its rows; no power is asked for
abbrev pub TimesCheck : ℕ → Windows → Answer → Type 0
TimesCheck slots w = SlotsCheck most_slots slots then JobsCheck most_jobs slots w

-- codes 1 to 4, with the limits of document 01
abbrev pub ListCheck : Day → Windows → Answer → Type 0
ListCheck day w =
    SlotsCheck most_slots day.slots
    then PowerCheck day.power
    then JobsCheck most_jobs day.slots w

-- at most `limit` rows, each with r < d ≤ T
pub record GoodRows (limit slots : ℕ) (w : Windows) : Type 0 where
  pub count : w.count ≤ limit
  pub window : (i : ℕ) → i < w.count → w.release i < w.deadline i
  pub in_day : (i : ℕ) → i < w.count → w.deadline i ≤ slots

-- a day and its rows within the limits of document 01: codes 1 to 4 refuse nothing
pub record Accepted (day : Day) (w : Windows) : Type 0 where
  pub some_slots : 0 < day.slots
  pub slots : day.slots ≤ most_slots
  pub wake : day.power.wake ≤ most_wake
  pub rows : GoodRows most_jobs day.slots w
