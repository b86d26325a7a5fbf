-- How an entry point answers: checks in order, each a relation that says with what it refuses; the first that refuses answers.
use Rattle.std.specs.Prelude.{ℕ, ◌+◌, ◌<◌, ◌≡◌}
use Rattle.checks.specs.declared.Answer.{Answer}
use Rattle.checks.specs.Answer.{says, done}

infixr 2 ◌then◌
-- what a check answers, or, where it has nothing to refuse, what comes next answers; checks in order are one check
pub data ◌then◌ (Check Next : Answer → Type 0) (a : Answer) : Type 0 where
  stops : Check a → (Check then Next) a
  goes_on : ((b : Answer) → Check b → ⊥) → Next a → (Check then Next) a

-- nothing left to refuse
abbrev pub Passed : Answer → Type 0
Passed a = a ≡ says done 0 0

-- a refusal of the whole, which names no row
pub record Refuses (code : ℕ) (Fault : Type 0) (a : Answer) : Type 0 where
  pub fault : Fault
  pub says : a ≡ says code 0 0

-- i is the first of n rows at fault
pub record First (n : ℕ) (Fault : ℕ → Type 0) (i : ℕ) : Type 0 where
  pub within : i < n
  pub fault : Fault i
  pub lowest : (j : ℕ) → j < i → Fault j → ⊥

-- a refusal that names the first row at fault, counted from 1
pub record RefusesRow (code n : ℕ) (Fault : ℕ → Type 0) (a : Answer) : Type 0 where
  pub row : ℕ
  pub first : First n Fault row
  pub says : a ≡ says code (row + 1) 0

-- of n rows, i is the lowest of any pair at fault and j its lowest partner
pub record FirstPair (n : ℕ) (Fault : ℕ → ℕ → Type 0) (i j : ℕ) : Type 0 where
  pub order : i < j
  pub within : j < n
  pub fault : Fault i j
  pub lowest : (k l : ℕ) → k < i → k < l → l < n → Fault k l → ⊥
  pub partner : (l : ℕ) → i < l → l < j → Fault i l → ⊥

-- a refusal that names the first pair at fault, counted from 1
pub record RefusesPair (code n : ℕ) (Fault : ℕ → ℕ → Type 0) (a : Answer) : Type 0 where
  pub row : ℕ
  pub partner : ℕ
  pub first : FirstPair n Fault row partner
  pub says : a ≡ says code (row + 1) (partner + 1)
