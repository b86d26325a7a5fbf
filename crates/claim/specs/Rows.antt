-- Which row stands in a slot.
use Rattle.std.specs.Prelude.{ℕ, zero, suc, ◌≤◌, ◌<◌, ◌≡◌, Bool, true, cond, not, List, eqb, length, replicate, max, Option, Some, None, Result, Ok, Err}
use Rattle.checks.specs.declared.Answer.{Answer}
use Rattle.checks.specs.declared.outcome.Refusal.{Refusal}
use Rattle.day.specs.Windows.{Windows, at}
use Rattle.day.specs.Plan.{Plan}
use Rattle.checks.specs.Answer.{says, done, refused}
use Rattle.checks.specs.Refusal.{◌then◌, Passed}
use Rattle.checks.specs.Check.{most_slots}
use Rattle.claim.specs.Claim.{ClaimCheck}

-- the row, counted from 1, of the first n that starts at slot t; 0 where none does, the last where several do
unfoldable pub row_at : ℕ → Plan → ℕ → ℕ
row_at zero start t = 0
row_at (suc n) start t = cond (eqb (start n) t) (suc n) (row_at n start t)

-- a list of the row in each slot
pub record RowsBySlot (n : ℕ) (start : Plan) (rows : List ℕ) : Type 0 where
  pub long : length rows ≡ most_slots
  pub each : (t : ℕ) → t < most_slots → at rows t ≡ row_at n start t

-- by the row in each slot, whether a slot holds a job
unfoldable pub holds_job : (ℕ → ℕ) → ℕ → Bool
holds_job row t = not (eqb (row t) 0)

abbrev pub HoldsJob : List ℕ → ℕ → Type 0
HoldsJob rows t = holds_job (at rows) t ≡ true

-- the first slot from `from` on that holds a job; where none does, the end of the list, or `from` past it
pub record NextJob (rows : List ℕ) (from slot : ℕ) : Type 0 where
  pub later : from ≤ slot
  pub within : from < slot → slot ≤ length rows
  pub job : slot < length rows → HoldsJob rows slot
  pub empty_before : (u : ℕ) → u < slot → from ≤ u → HoldsJob rows u → ⊥

-- what the search for it finds: a slot of the list, or nothing
abbrev pub FoundJob : List ℕ → ℕ → Option ℕ → Type 0
FoundJob rows from (Some slot) = (slot < length rows) × NextJob rows from slot
FoundJob rows from None = NextJob rows from (max from (length rows))

-- a claimed plan, judged: the answer, and the row in each slot
pub record Claimed : Type 0 where
  pub answer : Answer
  pub rows : List ℕ

-- what a judged plan is so: under a refusal no row stands in any slot
abbrev pub claimed : Result (List ℕ) Refusal → Claimed
claimed (Ok rows) = record { answer = says done 0 0; rows = rows }
claimed (Err refusal) = record { answer = refused refusal; rows = replicate most_slots 0 }

-- the rows beside the answer to a claimed plan: of an accepted plan the row in each slot, under a refusal none
pub record RowsBeside (w : Windows) (starts : List ℕ) (claimed : Claimed) : Type 0 where
  pub accepted : claimed.answer.code ≡ done → RowsBySlot w.count (at starts) claimed.rows
  pub refused : (claimed.answer.code ≡ done → ⊥) → RowsBySlot 0 (at starts) claimed.rows

-- a claimed plan, judged, for any check of the list
pub record Judged (Check : Answer → Type 0) (w : Windows) (starts : List ℕ) (claimed : Claimed) : Type 0 where
  pub answer : (ClaimCheck Check w starts then Passed) claimed.answer
  pub rows : RowsBeside w starts claimed
