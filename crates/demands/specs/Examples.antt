-- Examples of planning, with document 01's own numbers: P1 to P10 and a day of 96 slots, and what is refused.
use Rattle.std.specs.Prelude.{ℕ, ◌≤◌, ◌≡◌, List, [], ◌∷◌, ◌++◌, length, replicate, drop}
use Rattle.checks.specs.declared.Answer.{Answer}
use Rattle.day.specs.declared.Day.{Day}
use Rattle.day.specs.Windows.{Windows}
use Rattle.planner.specs.Promise.{PlanPromise}
use Rattle.demands.specs.Run.{Run, Promised}
use Rattle.demands.specs.ExamplesTable.{answer_of, day_with, releases_of, deadlines_of, list_with, ◌gives◌, Table}
pub use Rattle.demands.specs.ExamplesTable.{Each, none, one}

-- how much an example says a number is
pub data Amount : Type 0 where
  exactly : ℕ → Amount
  up_to : ℕ → Amount
  at_least : ℕ → Amount

abbrev pub Is : Amount → ℕ → Type 0
Is (exactly n) x = x ≡ n
Is (up_to n) x = x ≤ n
Is (at_least n) x = n ≤ x

pub record Example : Type 0 where
  -- the jobs, each as (r, d)
  pub jobs : List (ℕ × ℕ)
  -- T, L, and the places of the work table
  pub slots : ℕ
  pub wake : Amount
  pub places : Amount
  -- what comes back: code and first number, and the starts in row order
  pub code : ℕ
  pub first : ℕ
  pub starts : List ℕ

-- the run plans the example's list, with its day and its work table, and with room for the starts
pub record Plans (e : Example) (run : Run) : Type 0 where
  pub releases : run.releases ≡ releases_of e.jobs
  pub deadlines : run.deadlines ≡ deadlines_of e.jobs
  pub slots : run.day.slots ≡ e.slots
  pub wake : Is e.wake run.day.power.wake
  pub places : Is e.places (length run.table)
  pub room : length e.jobs ≤ length run.starts

-- the run has the example's answer, and the example's starts before what the lent list held after them
pub record Shows (e : Example) (run : Run) : Type 0 where
  pub answer : run.answer ≡ answer_of e.code e.first 0
  pub starts : run.starts_after ≡ e.starts ++ drop (length e.starts) run.starts

abbrev pub ExampleHolds : Example → Type 0
ExampleHolds e = (run : Run) → Plans e run → Promised run → Shows e run

-- rows, T, L, places, and then code, first number, starts
abbrev pub example : List (ℕ × ℕ) → ℕ → Amount → Amount → ℕ → ℕ → List ℕ → Example
example jobs slots wake places code first starts =
    record { jobs = jobs; slots = slots; wake = wake; places = places; code = code; first = first; starts = starts }

unfoldable pub examples : List Example
examples =
    -- P1
    example [] 1 (exactly 5) (at_least 16) 0 0 []
    ∷ example [] 1 (exactly 5) (exactly 15) 6 0 []
    -- P2
    ∷ example ((0, 1) ∷ []) 1 (up_to 1000) (at_least 32) 0 0 (0 ∷ [])
    -- P3
    ∷ example ((0, 1) ∷ (0, 1) ∷ []) 1 (up_to 1000) (at_least 48) 7 0 []
    -- P4
    ∷ example ((0, 2) ∷ (0, 2) ∷ []) 2 (exactly 1) (at_least 75) 0 0 (0 ∷ 1 ∷ [])
    ∷ example ((0, 2) ∷ (0, 2) ∷ (0, 2) ∷ []) 2 (up_to 1000) (at_least 100) 7 0 []
    -- P5
    ∷ example ((0, 4) ∷ (3, 6) ∷ []) 6 (exactly 3) (at_least 243) 0 0 (3 ∷ 4 ∷ [])
    ∷ example ((3, 6) ∷ (0, 4) ∷ []) 6 (exactly 3) (at_least 243) 0 0 (4 ∷ 3 ∷ [])
    -- P6
    ∷ example ((0, 6) ∷ (4, 6) ∷ []) 6 (exactly 3) (at_least 243) 0 0 (4 ∷ 5 ∷ [])
    -- P7
    ∷ example ((0, 1) ∷ (4, 5) ∷ []) 5 (exactly 0) (at_least 192) 0 0 (0 ∷ 4 ∷ [])
    ∷ example ((0, 1) ∷ (4, 5) ∷ []) 5 (exactly 2) (at_least 192) 0 2 (0 ∷ 4 ∷ [])
    ∷ example ((0, 1) ∷ (4, 5) ∷ []) 5 (exactly 3) (at_least 192) 0 3 (0 ∷ 4 ∷ [])
    ∷ example ((0, 1) ∷ (4, 5) ∷ []) 5 (exactly 4) (at_least 192) 0 3 (0 ∷ 4 ∷ [])
    -- P8
    ∷ example ((0, 1) ∷ (2, 8) ∷ (9, 10) ∷ []) 10 (exactly 3) (at_least 676) 0 4 (0 ∷ 7 ∷ 9 ∷ [])
    ∷ example ((0, 1) ∷ (2, 8) ∷ (9, 10) ∷ []) 10 (exactly 1) (at_least 676) 0 2 (0 ∷ 7 ∷ 9 ∷ [])
    -- P9, whole and in its two parts
    ∷ example ((0, 2) ∷ (1, 3) ∷ (6, 8) ∷ []) 8 (exactly 3) (at_least 484) 0 3 (1 ∷ 2 ∷ 7 ∷ [])
    ∷ example ((0, 2) ∷ (1, 3) ∷ []) 8 (exactly 3) (at_least 363) 0 0 (1 ∷ 2 ∷ [])
    ∷ example ((6, 8) ∷ []) 8 (exactly 3) (at_least 242) 0 0 (7 ∷ [])
    -- P10
    ∷ example ((0, 2) ∷ (1, 3) ∷ (5, 6) ∷ []) 6 (exactly 3) (at_least 324) 0 2 (1 ∷ 2 ∷ 5 ∷ [])
    -- T 96 accepted
    ∷ example [] 96 (exactly 5) (at_least 9801) 0 0 []
    ∷ []

abbrev pub ExamplesHold : Type 0
ExamplesHold = Each ExampleHolds examples

-- what is planned, and the starts and the work table that are lent
pub record PlanInput : Type 0 where
  pub day : Day
  pub rows : Windows
  pub starts : List ℕ
  pub table : List ℕ

-- rows, T, L, and how many places there are for starts and in the work table; each holds 9
abbrev pub plan_of : List (ℕ × ℕ) → ℕ → ℕ → ℕ → ℕ → PlanInput
plan_of jobs slots wake room places =
    record { day = day_with slots wake; rows = list_with jobs; starts = replicate room 9; table = replicate places 9 }

-- the answer, with starts and table afterwards
abbrev pub PlansTo : PlanInput → Answer × List ℕ × List ℕ → Type 0
PlansTo lent after = PlanPromise lent.day lent.rows lent.starts lent.table after.0 after.1 after.2

-- a refusal with code and first number leaves both lists as they were
abbrev pub refused_by : PlanInput → ℕ → ℕ → PlanInput × (Answer × List ℕ × List ℕ)
refused_by lent code first = lent gives (answer_of code first 0, lent.starts, lent.table)

-- what the planner refuses
unfoldable pub refused_plans : List (PlanInput × (Answer × List ℕ × List ℕ))
refused_plans =
    -- T 0 and T 97, and also where L is too large
    refused_by (plan_of [] 0 5 0 9) 1 0
    ∷ refused_by (plan_of [] 97 5 0 9) 1 0
    ∷ refused_by (plan_of [] 0 1001 0 9) 1 0
    -- L 1,001, and also where there are too many rows
    ∷ refused_by (plan_of [] 1 1001 0 16) 2 0
    ∷ refused_by (plan_of (replicate 41 (0, 1)) 1 1001 41 0) 2 0
    -- 41 rows, and also where they are empty; 40 are not too many, and only the table is too short
    ∷ refused_by (plan_of (replicate 41 (0, 1)) 1 5 41 0) 3 0
    ∷ refused_by (plan_of (replicate 41 (3, 3)) 6 5 41 0) 3 0
    ∷ refused_by (plan_of (replicate 40 (0, 1)) 1 5 40 0) 6 0
    -- (3,3), also in a later row and where there is no place for a start; d = T + 1
    ∷ refused_by (plan_of ((3, 3) ∷ []) 6 3 1 162) 4 1
    ∷ refused_by (plan_of ((0, 4) ∷ (3, 3) ∷ (4, 4) ∷ []) 6 3 0 0) 4 2
    ∷ refused_by (plan_of ((0, 6) ∷ (0, 7) ∷ []) 6 3 2 243) 4 2
    -- fewer places than jobs, and also where the table is too short
    ∷ refused_by (plan_of ((0, 2) ∷ (0, 2) ∷ []) 2 1 1 75) 5 0
    ∷ refused_by (plan_of ((0, 2) ∷ (0, 2) ∷ []) 2 1 1 0) 5 0
    -- a work table one place too short, also where there is no plan
    ∷ refused_by (plan_of [] 1 5 0 15) 6 0
    ∷ refused_by (plan_of ((0, 1) ∷ (0, 1) ∷ []) 1 5 2 47) 6 0
    ∷ []

abbrev pub RefusedPlansHold : Type 0
RefusedPlansHold = Table PlansTo refused_plans
