-- Examples of moving a list, with document 01's own numbers.
use Rattle.std.specs.Prelude.{ℕ, List, [], ◌∷◌, replicate, ℤ, pos, neg_ℤ}
use Rattle.checks.specs.declared.Answer.{Answer}
use Rattle.moving.specs.Moving.{MovePromise}
use Rattle.demands.specs.ExamplesTable.{answer_of, ◌gives◌, Table, releases_of, deadlines_of}

-- rows that are moved by so many slots on a day of T slots
pub record Move : Type 0 where
  pub jobs : List (ℕ × ℕ)
  pub slots : ℕ
  pub by : ℤ

-- positive is later
abbrev pub later : ℕ → ℤ
later n = pos n

abbrev pub earlier : ℕ → ℤ
earlier n = neg_ℤ (pos n)

abbrev pub move_of : List (ℕ × ℕ) → ℕ → ℤ → Move
move_of jobs slots by = record { jobs = jobs; slots = slots; by = by }

-- the answer, with releases and deadlines afterwards
abbrev pub MovesTo : Move → Answer × List ℕ × List ℕ → Type 0
MovesTo move after =
    MovePromise move.slots move.by (releases_of move.jobs) (deadlines_of move.jobs) after.0 after.1 after.2

-- code, first number, and the rows afterwards
abbrev pub rows_after : ℕ → ℕ → List (ℕ × ℕ) → Answer × List ℕ × List ℕ
rows_after code first jobs = (answer_of code first 0, releases_of jobs, deadlines_of jobs)

unfoldable pub moved_examples : List (Move × (Answer × List ℕ × List ℕ))
moved_examples =
    -- by one, and by none
    move_of ((0, 2) ∷ (1, 3) ∷ (6, 8) ∷ []) 9 (later 1) gives rows_after 0 0 ((1, 3) ∷ (2, 4) ∷ (7, 9) ∷ [])
    ∷ move_of ((1, 3) ∷ (2, 4) ∷ (7, 9) ∷ []) 9 (earlier 1) gives rows_after 0 0 ((0, 2) ∷ (1, 3) ∷ (6, 8) ∷ [])
    ∷ move_of ((0, 2) ∷ (1, 3) ∷ (6, 8) ∷ []) 8 (later 0) gives rows_after 0 0 ((0, 2) ∷ (1, 3) ∷ (6, 8) ∷ [])
    -- the first row that would leave the day, at its late end and at its early end
    ∷ move_of ((0, 2) ∷ (1, 3) ∷ (6, 8) ∷ []) 8 (later 1) gives rows_after 18 3 ((0, 2) ∷ (1, 3) ∷ (6, 8) ∷ [])
    ∷ move_of ((1, 3) ∷ (0, 2) ∷ (0, 8) ∷ []) 8 (earlier 1) gives rows_after 18 2 ((1, 3) ∷ (0, 2) ∷ (0, 8) ∷ [])
    -- the largest and the smallest number; an empty list never leaves
    ∷ move_of ((0, 1) ∷ []) 96 (later 32767) gives rows_after 18 1 ((0, 1) ∷ [])
    ∷ move_of ((0, 1) ∷ []) 96 (earlier 32768) gives rows_after 18 1 ((0, 1) ∷ [])
    ∷ move_of [] 96 (earlier 32768) gives rows_after 0 0 []
    -- T 0 and T 97; 41 rows, also where one is empty; (3,3) and d = T + 1, also where an earlier row would leave; 40 rows are not too many
    ∷ move_of [] 0 (later 1) gives rows_after 1 0 []
    ∷ move_of [] 97 (later 1) gives rows_after 1 0 []
    ∷ move_of (replicate 41 (3, 3)) 6 (later 1) gives rows_after 3 0 (replicate 41 (3, 3))
    ∷ move_of ((0, 6) ∷ (3, 3) ∷ []) 6 (later 1) gives rows_after 4 2 ((0, 6) ∷ (3, 3) ∷ [])
    ∷ move_of ((0, 6) ∷ (0, 7) ∷ []) 6 (earlier 1) gives rows_after 4 2 ((0, 6) ∷ (0, 7) ∷ [])
    ∷ move_of (replicate 40 (0, 1)) 2 (later 1) gives rows_after 0 0 (replicate 40 (1, 2))
    ∷ []

abbrev pub MovedExamplesHold : Type 0
MovedExamplesHold = Table MovesTo moved_examples
