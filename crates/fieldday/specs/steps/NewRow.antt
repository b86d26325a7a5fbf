-- A new row after the rows held: how it is checked, and what the checks let pass.
use Rattle.std.specs.Prelude.{ℕ, ◌+◌, ◌≤◌, ◌<◌, ◌≡◌, List, length}
use Rattle.checks.specs.declared.Answer.{Answer}
use Rattle.checks.specs.Answer.{too_many_jobs, bad_row, short_table}
use Rattle.checks.specs.Refusal.{◌then◌, Refuses, RefusesRow}
use Rattle.checks.specs.Check.{most_jobs, BadRow}
use Rattle.planner.specs.Table.{need}
use Rattle.fieldday.specs.declared.FieldDay.{FieldDay}
use Rattle.fieldday.specs.Held.{one_row}

-- of n good rows and a new one, the new one is bad
abbrev pub NewRowBad : ℕ → ℕ → ℕ → ℕ → ℕ → Type 0
NewRowBad slots n release deadline i = (i ≡ n) × BadRow slots (one_row release deadline) 0

-- codes 3, 4 and 6 for a new row after n good ones
abbrev pub NewRowCheck : ℕ → ℕ → ℕ → ℕ → ℕ → Answer → Type 0
NewRowCheck slots n release deadline places =
    Refuses too_many_jobs (most_jobs < n + 1)
    then RefusesRow bad_row (n + 1) (NewRowBad slots n release deadline)
    then Refuses short_table (places < need slots (n + 1))

-- what those checks let pass
pub record NewRowFits (f : FieldDay) (release deadline : ℕ) (table : List ℕ) : Type 0 where
  pub count : f.count < most_jobs
  pub window : release < deadline
  pub in_day : deadline ≤ f.day.slots
  pub room : need f.day.slots (f.count + 1) ≤ length table
