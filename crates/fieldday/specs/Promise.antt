-- What each call promises, over the day it is given, what else it is given, and what it gives back.
use Rattle.std.specs.Prelude.{ℕ, ◌+◌, ◌≤◌, ◌<◌, ◌≡◌, List, [], ◌∷◌, ◌++◌, length, take}
use Rattle.day.specs.declared.Day.{Day}
use Rattle.day.specs.Windows.{windows}
use Rattle.checks.specs.declared.Answer.{Answer}
use Rattle.checks.specs.Answer.{says, done, day_over}
use Rattle.checks.specs.Refusal.{◌then◌, Refuses, Passed}
use Rattle.checks.specs.Planned.{Planned}
use Rattle.claim.specs.Claim.{StartsCheck, PricePromise, plan_cost}
use Rattle.planner.specs.Table.{need}
use Rattle.planner.specs.Promise.{PlanCheck}
use Rattle.fieldday.specs.declared.FieldDay.{FieldDay}
use Rattle.fieldday.specs.declared.FieldAnswer.{FieldAnswer}
use Rattle.fieldday.specs.Held.{HeldCheck, held_cost, cut_held, held_with, cut_with, day_of, held_at, no_day}

-- a refused call gives back the day as it was
abbrev pub Kept : FieldDay → FieldAnswer → Type 0
Kept f r = (r.answer.code ≡ done → ⊥) → r.held ≡ f

-- open: refused as pricing is, and with the cost of the plan; a day at slot 0, or a day of zeros
pub record OpenPromise (day : Day) (releases deadlines starts : List ℕ) (r : FieldAnswer) : Type 0 where
  pub answer : PricePromise day (windows releases deadlines) starts r.answer
  pub opened : r.answer.code ≡ done → r.held ≡ day_of day 0 (length releases) releases deadlines starts
  pub refused : Kept no_day r

-- advance: the day judged, then 20 at slot T; the same day, a slot later
abbrev pub AdvanceCheck : FieldDay → Answer → Type 0
AdvanceCheck f = HeldCheck f then Refuses day_over (f.slot ≡ f.day.slots)

pub record AdvancePromise (f : FieldDay) (r : FieldAnswer) : Type 0 where
  pub answer : (AdvanceCheck f then Passed) r.answer
  pub advanced : r.answer.code ≡ done → r.held ≡ held_at f (f.slot + 1) f.starts
  pub refused : Kept f r

-- add: the day judged, then as the planner checks the list with the new row as given; starts are never too few where rows are not too many
abbrev pub AddCheck : FieldDay → ℕ → ℕ → List ℕ → Answer → Type 0
AddCheck f release deadline table = HeldCheck f then PlanCheck f.day (held_with f release deadline) f.starts table

-- the cut list with the new row last is planned; the day holds the new row as given, and the plan. The starts afterwards are the day's
pub record AddPromise (f : FieldDay) (release deadline : ℕ) (table : List ℕ) (r : FieldAnswer) (table_after : List ℕ) : Type 0 where
  pub starts_after : List ℕ
  pub planned : Planned (AddCheck f release deadline table) (need f.day.slots (f.count + 1)) f.day
      (cut_with f release deadline)
      f.starts
      table
      r.answer
      starts_after
      table_after
  pub added : r.answer.code ≡ done
      → r.held
      ≡ day_of f.day f.slot (f.count + 1) (take f.count f.releases ++ release ∷ []) (take f.count f.deadlines ++ deadline ∷ []) starts_after
  pub refused : Kept f r

-- offer: the day judged, then the starts offered, over the cut list
abbrev pub OfferCheck : FieldDay → List ℕ → Answer → Type 0
OfferCheck f server = HeldCheck f then StartsCheck (cut_held f) server

-- what the plan offered costs
abbrev pub offered_cost : FieldDay → List ℕ → ℕ
offered_cost f server = plan_cost f.day (cut_held f) server

-- 1 if the plan offered is strictly cheaper than the plan held, else 0
pub data Weighed (f : FieldDay) (server : List ℕ) (a : Answer) : Type 0 where
  cheaper : offered_cost f server < held_cost f → a ≡ says done 1 0 → Weighed f server a
  no_cheaper : held_cost f ≤ offered_cost f server → a ≡ says done 0 0 → Weighed f server a

pub record OfferPromise (f : FieldDay) (server : List ℕ) (r : FieldAnswer) : Type 0 where
  pub answer : (OfferCheck f server then Weighed f server) r.answer
  pub taken : r.answer ≡ says done 1 0 → r.held ≡ held_at f f.slot server
  pub left : r.answer ≡ says done 0 0 → r.held ≡ held_at f f.slot f.starts
  pub refused : Kept f r
