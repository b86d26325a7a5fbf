-- Moving: where a moved window leaves the day; a list that moving accepts is accepted by the planner too; with the same T and L it has the old code and cost, and each start moves by as
-- much.
use Rattle.std.specs.Prelude.{ℕ, ◌+◌, ◌≤◌, ◌<◌, ◌≡◌, List, [], length, ℤ, pos, negsuc}
use Rattle.checks.specs.declared.Answer.{Answer}
use Rattle.day.specs.Windows.{at, windows}
use Rattle.checks.specs.Answer.{says, done, leaves_day}
use Rattle.day.specs.Moved.{Shifts}
use Rattle.checks.specs.Check.{most_slots, most_jobs, GoodRows, Accepted}
use Rattle.moving.specs.Moving.{WindowLeaves, MovePromise}
use Rattle.demands.specs.Run.{Run, list, Served}

-- two runs on one day, the second on the list that moving made of the first: it kept its promise, and accepted
pub record Moves (by : ℤ) (run other : Run) : Type 0 where
  pub day : other.day ≡ run.day
  pub answer : Answer
  pub promised : MovePromise run.day.slots by run.releases run.deadlines answer other.releases other.deadlines
  pub accepted : answer.code ≡ done

-- checks 1 to 4 accept it too
abbrev pub MovedAccepted : Type 0
MovedAccepted =
    (by : ℤ) (run other : Run) → Moves by run other → Accepted run.day (list run) → Accepted other.day (list other)

-- the same answer, code and cost; under code 0 each start is moved
pub record MovedAnswer (by : ℤ) (run other : Run) : Type 0 where
  pub answer : other.answer ≡ run.answer
  pub starts : run.answer.code ≡ done → (i : ℕ) → i < (list run).count
      → Shifts by (at run.starts_after i) (at other.starts_after i)

abbrev pub MovingKeeps : Type 0
MovingKeeps = (by : ℤ) (run other : Run) → Moves by run other → Served run → Served other → MovedAnswer by run other

-- a window of a day, from r to d
pub record InDay (slots r d : ℕ) : Type 0 where
  pub window : r < d
  pub within : d ≤ slots

-- where a window leaves the day, in numbers without a sign: n + 1 slots earlier if r ≤ n, n slots later if d + n > T
pub record LeavesAtEnds : Type 0 where
  pub earlier : (slots n r d : ℕ) → InDay slots r d → WindowLeaves slots (negsuc n) r d → r ≤ n
  pub too_early : (slots n r d : ℕ) → r ≤ n → WindowLeaves slots (negsuc n) r d
  pub later : (slots n r d : ℕ) → WindowLeaves slots (pos n) r d → slots < d + n
  pub too_late : (slots n r d : ℕ) → slots < d + n → WindowLeaves slots (pos n) r d

-- a list within the limits, and what moving it gives
pub record Tried (slots : ℕ) (by : ℤ) (releases deadlines : List ℕ) (a : Answer) (releases-after deadlines-after : List ℕ) : Type 0 where
  pub some_slots : 0 < slots
  pub slots_taken : slots ≤ most_slots
  pub rows : GoodRows most_jobs slots (windows releases deadlines)
  pub promised : MovePromise slots by releases deadlines a releases-after deadlines-after

pub record MovesAtEnds : Type 0 where
  -- an empty list never gets 18
  pub empty : (slots : ℕ) (by : ℤ) (deadlines : List ℕ) (a : Answer) (releases-after deadlines-after : List ℕ) → MovePromise slots by [] deadlines a releases-after deadlines-after
      → a.code ≡ leaves_day → ⊥
  -- by -32,768 slots every other list leaves, with its first row
  pub smallest : (slots : ℕ) (releases deadlines : List ℕ) (a : Answer) (releases-after deadlines-after : List ℕ)
      → Tried slots (negsuc 32767) releases deadlines a releases-after deadlines-after → 0 < length releases → a ≡ says leaves_day 1 0
  -- by 0 slots nothing changes
  pub zero : (slots : ℕ) (releases deadlines : List ℕ) (a : Answer) (releases-after deadlines-after : List ℕ)
      → Tried slots (pos 0) releases deadlines a releases-after deadlines-after → (a ≡ says done 0 0) × (releases-after ≡ releases) × (deadlines-after ≡ deadlines)
