-- A claimed plan: how it is judged, and what pricing it answers.
use Rattle.std.specs.Prelude.{ℕ, ◌≤◌, ◌<◌, ◌≡◌, List, length}
use Rattle.checks.specs.declared.Answer.{Answer}
use Rattle.day.specs.declared.Day.{Day}
use Rattle.day.specs.Windows.{Windows, at}
use Rattle.day.specs.Plan.{MayStart, Proper}
use Rattle.day.specs.Gap.{cost}
use Rattle.checks.specs.Answer.{says, done, few_starts, outside_window, same_start}
use Rattle.checks.specs.Refusal.{◌then◌, Refuses, RefusesRow, RefusesPair}
use Rattle.checks.specs.Check.{ListCheck}

-- a claimed plan that is proper, with a start for each job
pub record Fit (w : Windows) (starts : List ℕ) : Type 0 where
  pub long : w.count ≤ length starts
  pub proper : Proper w (at starts)

-- fewer claimed starts than jobs
abbrev pub LengthCheck : Windows → List ℕ → Answer → Type 0
LengthCheck w starts = Refuses few_starts (length starts < w.count)

-- the claimed start of a row is outside its window
abbrev pub OutsideWindow : Windows → List ℕ → ℕ → Type 0
OutsideWindow w starts i = MayStart w i (at starts i) → ⊥

abbrev pub WindowsCheck : Windows → List ℕ → Answer → Type 0
WindowsCheck w starts = RefusesRow outside_window w.count (OutsideWindow w starts)

-- two rows are claimed to start together
abbrev pub Together : List ℕ → ℕ → ℕ → Type 0
Together starts i j = at starts i ≡ at starts j

abbrev pub ApartCheck : ℕ → List ℕ → Answer → Type 0
ApartCheck n starts = RefusesPair same_start n (Together starts)

-- codes 5, 14 and 15
abbrev pub StartsCheck : Windows → List ℕ → Answer → Type 0
StartsCheck w starts = LengthCheck w starts then WindowsCheck w starts then ApartCheck w.count starts

-- how pricing, ledger and slot record judge a claimed plan: what they check of the list, 5, 14 over all rows, then 15
abbrev pub ClaimCheck : (Answer → Type 0) → Windows → List ℕ → Answer → Type 0
ClaimCheck Check w starts = Check then StartsCheck w starts

-- what the plan of the first n starts costs
abbrev pub plan_cost : Day → Windows → List ℕ → ℕ
plan_cost day w starts = cost day w.count (at starts)

-- the answer that says so
abbrev pub Costs : Day → Windows → List ℕ → Answer → Type 0
Costs day w starts a = a ≡ says done (plan_cost day w starts) 0

-- what pricing a claimed plan answers, for any check of the list
abbrev pub Priced : (Answer → Type 0) → Day → Windows → List ℕ → Answer → Type 0
Priced Check day w starts = ClaimCheck Check w starts then Costs day w starts

-- what `price` promises: codes 1 to 4 for the list
abbrev pub PricePromise : Day → Windows → List ℕ → Answer → Type 0
PricePromise day w = Priced (ListCheck day w) day w
