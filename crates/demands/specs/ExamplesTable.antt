-- What a table of examples says of a promise. A row has an input and the outcome that document 01 shows for it.
use Rattle.std.specs.Prelude.{ℕ, ◌≡◌, List, [], ◌∷◌, map}
use Rattle.checks.specs.declared.Answer.{Answer}
use Rattle.day.specs.declared.Day.{Day}
use Rattle.day.specs.Windows.{Windows, windows}

pub data Each {A : Type 0} (P : A → Type 0) : List A → Type 0 where
  none : Each P []
  one : {x : A} {xs : List A} → P x → Each P xs → Each P (x ∷ xs)

infix 68 ◌gives◌
abbrev pub ◌gives◌ : {Input Outcome : Type 0} → Input → Outcome → Input × Outcome
input gives outcome = (input, outcome)

-- the row's outcome keeps the promise for the row's input, and no other does
pub record Shown {Input Outcome : Type 0} (Promise : Input → Outcome → Type 0) (row : Input × Outcome) : Type 0 where
  pub keeps : Promise row.0 row.1
  pub only : (other : Outcome) → Promise row.0 other → other ≡ row.1

abbrev pub Table : {Input Outcome : Type 0} → (Input → Outcome → Type 0) → List (Input × Outcome) → Type 0
Table Promise rows = Each (Shown Promise) rows

-- The words of the rows: answers, days and lists in document 01's numbers, and P8, which many rows have.

-- code, first and second number
abbrev pub answer_of : ℕ → ℕ → ℕ → Answer
answer_of code first second = record { code = code; first = first; second = second }

-- T and L
abbrev pub day_with : ℕ → ℕ → Day
day_with slots wake = record { slots = slots; power = record { wake = wake } }

abbrev pub releases_of : List (ℕ × ℕ) → List ℕ
releases_of = map (λ j. j.0)

abbrev pub deadlines_of : List (ℕ × ℕ) → List ℕ
deadlines_of = map (λ j. j.1)

abbrev pub list_with : List (ℕ × ℕ) → Windows
list_with jobs = windows (releases_of jobs) (deadlines_of jobs)

-- P8's rows
abbrev pub P8 : List (ℕ × ℕ)
P8 = (0, 1) ∷ (2, 8) ∷ (9, 10) ∷ []
