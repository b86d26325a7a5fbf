-- Over any history of a day in the field each job is done at most once, and exactly once if the day reaches its end. What is done is told by
-- what happens: an advance from slot s does the jobs that the plan held then has in s.
use Rattle.std.specs.Prelude.{ℕ, zero, suc, ◌≤◌, ◌<◌, ◌≡◌, cond, List, [], ◌∷◌, ◌++◌, eqb}
use Rattle.day.specs.declared.Day.{Day}
use Rattle.day.specs.Windows.{at}
use Rattle.day.specs.Plan.{Plan}
use Rattle.checks.specs.Answer.{done}
use Rattle.fieldday.specs.declared.FieldDay.{FieldDay}
use Rattle.fieldday.specs.declared.FieldAnswer.{FieldAnswer}
use Rattle.fieldday.specs.Held.{list_held}
use Rattle.fieldday.specs.Promise.{OpenPromise}
use Rattle.demands.specs.FieldDay.{HasPlaces, Call, advances, adds, offers, after}

-- calls one after another, refused ones among them, each on the day that the one before gave back
pub data Calls : FieldDay → Type 0 where
  calls_end : {f : FieldDay} → Calls f
  calls_then : {f : FieldDay} (c : Call f) → Calls (after c) → Calls f

-- an opening, refused or not, and the calls on the day that it gave
pub record History : Type 0 where
  pub day : Day
  pub releases : List ℕ
  pub deadlines : List ℕ
  pub starts : List ℕ
  pub opening : FieldAnswer
  pub opened : OpenPromise day releases deadlines starts opening
  pub calls : Calls opening.held

-- the day held after them all
unfoldable pub last : {f : FieldDay} → Calls f → FieldDay
last {f} calls_end = f
last (calls_then c cs) = last cs

-- the rows of the first n that a plan has in a slot
unfoldable pub rows_in : ℕ → Plan → ℕ → List ℕ
rows_in zero start slot = []
rows_in (suc n) start slot = cond (eqb (start n) slot) (n ∷ rows_in n start slot) (rows_in n start slot)

-- the rows that a call does: an advance that isn't refused does what the plan held has in the current slot
unfoldable pub does : {f : FieldDay} → Call f → List ℕ
does {f} (advances r _) = cond (eqb r.answer.code done) (rows_in f.count (at f.starts) f.slot) []
does (adds _ _ _ _ _ _) = []
does (offers _ _ _) = []

-- all rows that are done, in the order in which it happens
unfoldable pub happened : {f : FieldDay} → Calls f → List ℕ
happened calls_end = []
happened (calls_then c cs) = does c ++ happened cs

-- how many times a row is done
unfoldable pub times : ℕ → List ℕ → ℕ
times i [] = 0
times i (row ∷ rows) = cond (eqb row i) (suc (times i rows)) (times i rows)

abbrev pub DoneAtMostOnce : Type 0
DoneAtMostOnce = (h : History) (i : ℕ) → times i (happened h.calls) ≤ 1

-- the day has reached its end
abbrev pub AtEnd : FieldDay → Type 0
AtEnd f = f.slot ≡ f.day.slots

abbrev pub DoneOnceByEnd : Type 0
DoneOnceByEnd = (h : History) → AtEnd (last h.calls) → (i : ℕ) → i < (last h.calls).count → times i (happened h.calls) ≡ 1

-- a row is the same job all along: it keeps its window through every call
pub record SameJob (f g : FieldDay) (i : ℕ) : Type 0 where
  pub held : i < g.count
  pub release : (list_held g).release i ≡ (list_held f).release i
  pub deadline : (list_held g).deadline i ≡ (list_held f).deadline i

abbrev pub RowsStay : Type 0
RowsStay = (f : FieldDay) → HasPlaces f → (c : Call f) (i : ℕ) → i < f.count → SameJob f (after c) i
