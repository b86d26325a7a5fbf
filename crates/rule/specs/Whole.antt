-- The rule set up for a whole day, between the two far points 0 and slots + 2; slots are counted from 1.
use Rattle.std.specs.Prelude.{ℕ, ◌+◌, ◌-◌, ◌≤◌, ◌<◌, ◌≡◌, true, cond, eqb}
use Rattle.day.specs.declared.Day.{Day}
use Rattle.day.specs.Windows.{Windows}
use Rattle.day.specs.Number.{Numbered}
use Rattle.day.specs.Plan.{Plan, Proper}
use Rattle.day.specs.Gap.{cost}
use Rattle.day.specs.Far.{far_price}
use Rattle.rule.specs.Span.{Problem, value, read_back}

-- the jobs by number: `row k` is the row with number k
abbrev pub problem : Day → Windows → (ℕ → ℕ) → ℕ → Problem
problem day w row none =
    record {
      price = far_price day;
      allowed = λ t. true;
      none = none;
      release = λ k. w.release (row k) + 1;
      deadline = λ k. w.deadline (row k) + 1;
    }

-- the value of the whole day, between the two far points
abbrev pub whole : Day → Windows → (ℕ → ℕ) → ℕ → ℕ
whole day w row none = value (problem day w row none) w.count 0 (day.slots + 2)

-- the start of each number in the plan read back of the whole day
abbrev pub whole_back : Day → Windows → (ℕ → ℕ) → ℕ → ℕ → ℕ
whole_back day w row none = read_back (problem day w row none) w.count 0 (day.slots + 2)

-- the two wakes at the far ends come off, save with no jobs
unfoldable pub without_ends : Day → ℕ → ℕ → ℕ
without_ends day n v = cond (eqb n 0) 0 (v - (day.power.wake + day.power.wake))

-- b has by number what the plan has by row, slots counted from 1
abbrev pub ByNumber : ℕ → (ℕ → ℕ) → Plan → (ℕ → ℕ) → Type 0
ByNumber count row p b = (k : ℕ) → k < count → p (row k) + 1 ≡ b k

-- what the rule asks of a list: its rows are numbered, its windows lie in the day, and no plan with two wakes costs as much as `none`
pub record Ready (day : Day) (w : Windows) (row : ℕ → ℕ) (none : ℕ) : Type 0 where
  pub numbered : Numbered w.count w.deadline row
  pub window : (i : ℕ) → i < w.count → w.release i < w.deadline i
  pub in_day : (i : ℕ) → i < w.count → w.deadline i ≤ day.slots
  pub above : (p : Plan) → Proper w p → cost day w.count p + (day.power.wake + day.power.wake) < none
