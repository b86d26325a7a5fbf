-- A day in the field: what each call does to the plan held.
use Rattle.std.specs.Prelude.{ℕ, ◌+◌, ◌≤◌, ◌<◌, ◌≡◌, List, ◌⊎◌, length}
use Rattle.day.specs.declared.Day.{Day}
use Rattle.day.specs.Windows.{at, SameRows}
use Rattle.day.specs.Plan.{Plan, NoPlan}
use Rattle.day.specs.Gap.{cost}
use Rattle.day.specs.Best.{Best}
use Rattle.checks.specs.declared.Answer.{Answer}
use Rattle.checks.specs.Answer.{says, done, no_plan}
use Rattle.checks.specs.Check.{most_jobs}
use Rattle.claim.specs.Claim.{Fit}
use Rattle.fieldday.specs.declared.FieldDay.{FieldDay}
use Rattle.fieldday.specs.declared.FieldAnswer.{FieldAnswer}
use Rattle.cutlist.specs.Cut.{Done}
use Rattle.fieldday.specs.Held.{HeldCheck, held_cost, cut_held, cut_with}
use Rattle.fieldday.specs.Promise.{OpenPromise, AdvancePromise, AddCheck, AddPromise, offered_cost, OfferPromise}
use Rattle.demands.specs.Run.{Run, list, Served}

-- the next call's judging has nothing to refuse
abbrev pub PassesJudging : FieldDay → Type 0
PassesJudging f = (b : Answer) → HeldCheck f b → ⊥

-- a day as the code holds one: each of its lists has 40 places, so that a new row comes after the others
pub record HasPlaces (f : FieldDay) : Type 0 where
  pub releases : length f.releases ≡ most_jobs
  pub deadlines : length f.deadlines ≡ most_jobs
  pub starts : length f.starts ≡ most_jobs

-- a call on a day held, with what it was given and what came of it, as promised
pub data Call (f : FieldDay) : Type 0 where
  advances : (r : FieldAnswer) → AdvancePromise f r → Call f
  adds : (release deadline : ℕ) (table : List ℕ) (r : FieldAnswer) (table_after : List ℕ) → AddPromise f release deadline table r table_after
      → Call f
  offers : (server : List ℕ) (r : FieldAnswer) → OfferPromise f server r → Call f

-- what it gave back
abbrev pub came : {f : FieldDay} → Call f → FieldAnswer
came (advances r _) = r
came (adds _ _ _ r _ _) = r
came (offers _ r _) = r

-- the day held after it
abbrev pub after : {f : FieldDay} → Call f → FieldDay
after c = (came c).held

-- a day that is given back under 0 passes the next call's judging

abbrev pub OpenedPasses : Type 0
OpenedPasses =
    (day : Day) (releases deadlines starts : List ℕ) (r : FieldAnswer) → OpenPromise day releases deadlines starts r
    → r.answer.code ≡ done
    → PassesJudging r.held

abbrev pub AfterPasses : Type 0
AfterPasses = (f : FieldDay) → HasPlaces f → (c : Call f) → (came c).answer.code ≡ done → PassesJudging (after c)

-- a done job is still there after any call, keeps its slot, and is still done
pub record StaysDone (f g : FieldDay) (i : ℕ) : Type 0 where
  pub held : i < g.count
  pub slot : at g.starts i ≡ at f.starts i
  pub done : Done g.slot (at g.starts) i

abbrev pub DoneKeepsSlot : Type 0
DoneKeepsSlot = (f : FieldDay) (c : Call f) (i : ℕ) → i < f.count → Done f.slot (at f.starts) i → StaysDone f (after c) i

-- the plan held gets no dearer by any call but add
abbrev pub NoDearer : FieldDay → FieldAnswer → Type 0
NoDearer f r = held_cost r.held ≤ held_cost f

abbrev pub AdvanceNoDearer : Type 0
AdvanceNoDearer = (f : FieldDay) (r : FieldAnswer) → AdvancePromise f r → NoDearer f r

abbrev pub OfferNoDearer : Type 0
OfferNoDearer = (f : FieldDay) (server : List ℕ) (r : FieldAnswer) → OfferPromise f server r → NoDearer f r

-- an offer on a day that passes judging: taken exactly if it is proper for the cut list and strictly cheaper
pub record TakenExactly (f : FieldDay) (server : List ℕ) (r : FieldAnswer) : Type 0 where
  pub only_if : r.answer ≡ says done 1 0 → Fit (cut_held f) server × (offered_cost f server < held_cost f)
  pub whenever : Fit (cut_held f) server → offered_cost f server < held_cost f → r.answer ≡ says done 1 0
  -- then it is the plan held, and else the plan held stays
  pub taken : r.answer ≡ says done 1 0 → (i : ℕ) → i < f.count → at r.held.starts i ≡ at server i
  pub left : (r.answer ≡ says done 1 0 → ⊥) → (i : ℕ) → i < f.count → at r.held.starts i ≡ at f.starts i

abbrev pub OfferTaken : Type 0
OfferTaken =
    (f : FieldDay) (server : List ℕ) (r : FieldAnswer) → OfferPromise f server r → PassesJudging f → TakenExactly f server r

-- an addition that its checks have nothing to refuse: the best plan of the cut list with the new row last, which is the only one, or 7
pub record BestAdded (f : FieldDay) (release deadline : ℕ) (r : FieldAnswer) : Type 0 where
  pub answer : r.answer ≡ says done (cost f.day (f.count + 1) (at r.held.starts)) 0
  pub best : Best f.day (cut_with f release deadline) (at r.held.starts)
  pub only : (p : Plan) → Best f.day (cut_with f release deadline) p → (i : ℕ) → i < f.count + 1 → at r.held.starts i ≡ p i

pub record NoneAdded (f : FieldDay) (release deadline : ℕ) (r : FieldAnswer) : Type 0 where
  pub answer : r.answer ≡ says no_plan 0 0
  pub none : NoPlan (cut_with f release deadline)
  pub held : r.held ≡ f

-- adding answers 0 or 7 only where its checks have nothing to refuse
abbrev pub AddAdmitted : Type 0
AddAdmitted =
    (f : FieldDay) (release deadline : ℕ) (table : List ℕ) (r : FieldAnswer) (table_after : List ℕ)
    → AddPromise f release deadline table r table_after
    → (r.answer.code ≡ done) ⊎ (r.answer.code ≡ no_plan)
    → (b : Answer) → AddCheck f release deadline table b → ⊥

-- what holds of every addition that its checks have nothing to refuse
abbrev pub OfAdding : (FieldDay → ℕ → ℕ → List ℕ → FieldAnswer → List ℕ → Type 0) → Type 0
OfAdding Says =
    (f : FieldDay) (release deadline : ℕ) (table : List ℕ) (r : FieldAnswer) (table_after : List ℕ)
    → AddPromise f release deadline table r table_after
    → ((b : Answer) → AddCheck f release deadline table b → ⊥)
    → Says f release deadline table r table_after

abbrev pub AddsBestOrNone : Type 0
AddsBestOrNone = OfAdding (λ f release deadline table r table_after. BestAdded f release deadline r ⊎ NoneAdded f release deadline r)

-- 7 exactly if the cut list with the new row has no proper plan, as it has none if the new row's raised window is empty
pub record SevenAdded (f : FieldDay) (release deadline : ℕ) (r : FieldAnswer) : Type 0 where
  pub only_if : r.answer.code ≡ no_plan → NoPlan (cut_with f release deadline)
  pub of_none : NoPlan (cut_with f release deadline) → r.answer.code ≡ no_plan
  pub of_empty : deadline ≤ f.slot → r.answer.code ≡ no_plan

abbrev pub AddsSeven : Type 0
AddsSeven = OfAdding (λ f release deadline table r table_after. SevenAdded f release deadline r)

-- an addition is a run of the planner on the cut list with the new row last, so that demands 2 and 3 speak of its plan
pub record AddedRun (f : FieldDay) (release deadline : ℕ) (table : List ℕ) (r : FieldAnswer) (table_after : List ℕ) : Type 0 where
  pub run : Run
  pub served : Served run
  pub day : run.day ≡ f.day
  pub rows : SameRows (cut_with f release deadline) (list run)
  pub answer : run.answer ≡ r.answer
  pub starts : r.answer.code ≡ done → (i : ℕ) → i < f.count + 1 → at run.starts_after i ≡ at r.held.starts i
  pub lent : run.table ≡ table
  pub lent_after : run.table_after ≡ table_after

-- where the raised window has a slot
abbrev pub AddIsRun : Type 0
AddIsRun =
    OfAdding (λ f release deadline table r table_after. f.slot < deadline → AddedRun f release deadline table r table_after)
