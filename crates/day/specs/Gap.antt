-- Gaps and what they cost. A plan is given here by its full slots.
use Rattle.std.specs.Prelude.{ℕ, zero, suc, ◌+◌, ◌≤◌, ◌<◌, min, ◌≡◌, Bool, true, false, cond, List, [], ◌∷◌, ltb}
use Rattle.day.specs.declared.Power.{Power}
use Rattle.day.specs.declared.Day.{Day}
use Rattle.day.specs.Plan.{Plan, taken}

-- the slots from a on and before b are empty
abbrev pub EmptyFrom : (ℕ → Bool) → ℕ → ℕ → Type 0
EmptyFrom full a b = (t : ℕ) → a ≤ t → t < b → full t ≡ false

-- a gap: a maximal run of g ≥ 1 empty slots, from `from` on, with a job somewhere before it and one after it
pub record Gap (full : ℕ → Bool) (slots from g : ℕ) : Type 0 where
  pub some : 1 ≤ g
  pub empty : EmptyFrom full from (from + g)
  pub maximal : (a b : ℕ) → a ≤ from → from + g ≤ b → b ≤ slots → EmptyFrom full a b → (a ≡ from) × (b ≡ from + g)
  pub job_before : (t : ℕ) × (t < from) × (full t ≡ true)
  pub job_after : (t : ℕ) × (from + g ≤ t) × (t < slots) × (full t ≡ true)

-- no gap begins at t or later and before e
abbrev pub NoGap : (ℕ → Bool) → ℕ → ℕ → ℕ → Type 0
NoGap full slots t e = (from g : ℕ) → t ≤ from → from < e → Gap full slots from g → ⊥

-- the lengths of the gaps that begin at t or later, in their order and with none left out
pub data Listed (full : ℕ → Bool) (slots : ℕ) : ℕ → List ℕ → Type 0 where
  no_more : {t : ℕ} → NoGap full slots t slots → Listed full slots t []
  next : {t g : ℕ} {gs : List ℕ} (from : ℕ) → t ≤ from → NoGap full slots t from → Gap full slots from g
      → Listed full slots (suc from) gs
      → Listed full slots t (g ∷ gs)

-- the price of a gap of g slots: the machine stays awake at 1 a slot, or sleeps and pays to wake
unfoldable pub price : Power → ℕ → ℕ
price power g = min power.wake g

-- whether the machine sleeps through a gap of g slots: only where that costs less than to stay awake
unfoldable pub asleep : Power → ℕ → Bool
asleep power g = ltb power.wake g

-- The gaps are listed by a walk over the slots; proofs/GapRuns.antt shows that it lists the gaps and nothing else.

-- the run of g empty slots that a job ends: a gap if it has a slot
unfoldable pub ended : ℕ → List ℕ → List ℕ
ended zero rest = rest
ended (suc g) rest = suc g ∷ rest

-- over the m slots from t on, where g slots have been empty since the last job: the lengths of the gaps that end there
unfoldable pub gaps_since : (ℕ → Bool) → ℕ → ℕ → ℕ → List ℕ
gaps_since full g t zero = []
gaps_since full g t (suc m) = cond (full t) (ended g (gaps_since full 0 (suc t) m)) (gaps_since full (suc g) (suc t) m)

-- over the m slots from t on, where no job stands before t: the lengths of the gaps
unfoldable pub gaps : (ℕ → Bool) → ℕ → ℕ → List ℕ
gaps full t zero = []
gaps full t (suc m) = cond (full t) (gaps_since full 0 (suc t) m) (gaps full (suc t) m)

unfoldable pub total : (ℕ → ℕ) → List ℕ → ℕ
total f [] = 0
total f (x ∷ xs) = f x + total f xs

-- the cost of the first n starts of a plan: the sum over its gaps
unfoldable pub cost : Day → ℕ → Plan → ℕ
cost day n start = total (price day.power) (gaps (taken n start) 0 day.slots)
