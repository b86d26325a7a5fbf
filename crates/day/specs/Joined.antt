-- Two lists joined to one, and when they lie apart.
use Rattle.std.specs.Prelude.{ℕ, ◌+◌, ◌-◌, ◌≤◌, ◌<◌, ◌≡◌, cond, ◌||◌, eqb, ltb}
use Rattle.day.specs.declared.Power.{Power}
use Rattle.day.specs.Windows.{Windows}
use Rattle.day.specs.Gap.{price}

-- of two functions of a row, the first for the n rows of the first list and the second for the rows that follow
abbrev pub beside : ℕ → (ℕ → ℕ) → (ℕ → ℕ) → ℕ → ℕ
beside n f g i = cond (ltb i n) (f i) (g (i - n))

-- what a function of a row gives for the rows that follow the first n
abbrev pub following : ℕ → (ℕ → ℕ) → ℕ → ℕ
following n f i = f (n + i)

-- the rows of w, then those of v
abbrev pub joined : Windows → Windows → Windows
joined w v =
    record {
      count = w.count + v.count;
      release = beside w.count w.release v.release;
      deadline = beside w.count w.deadline v.deadline;
    }

-- the first list ends by g, the second begins at h or later, and whatever lies between costs a wake
pub record ListsApart (power : Power) (g h : ℕ) (w v : Windows) : Type 0 where
  pub order : g ≤ h
  pub first : (i : ℕ) → i < w.count → w.deadline i ≤ g
  pub second : (i : ℕ) → i < v.count → h ≤ v.release i
  pub between : (x : ℕ) → h - g ≤ x → price power x ≡ power.wake

-- what joining adds to the costs of two lists: a wake for what lies between, and nothing where a list is empty
abbrev pub joining : Power → Windows → Windows → ℕ
joining power w v = cond (eqb w.count 0 || eqb v.count 0) 0 power.wake
