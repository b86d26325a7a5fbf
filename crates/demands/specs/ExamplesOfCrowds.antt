-- Examples of a crowded span, with document 02's own numbers, and of what is refused.
use Rattle.std.specs.Prelude.{ℕ, List, [], ◌∷◌, ◌++◌, replicate}
use Rattle.crowd.specs.declared.CrowdAnswer.{CrowdAnswer}
use Rattle.crowd.specs.Promise.{no_span, CrowdPromise}
use Rattle.demands.specs.ExamplesTable.{answer_of, list_with, ◌gives◌, Table, P8}

-- rows, on a day of T slots
pub record Question : Type 0 where
  pub jobs : List (ℕ × ℕ)
  pub slots : ℕ

abbrev pub why_none : List (ℕ × ℕ) → ℕ → Question
why_none jobs slots = record { jobs = jobs; slots = slots }

abbrev pub Explains : Question → CrowdAnswer → Type 0
Explains question = CrowdPromise question.slots (list_with question.jobs)

-- a, b and the number inside
abbrev pub span_with : ℕ → ℕ → ℕ → CrowdAnswer
span_with a b inside = record { answer = answer_of 0 0 0; span = record { begin = a; end = b; jobs = inside } }

-- code and first number
abbrev pub no_span_with : ℕ → ℕ → CrowdAnswer
no_span_with code first = record { answer = answer_of code first 0; span = no_span }

unfoldable pub crowd_examples : List (Question × CrowdAnswer)
crowd_examples =
    -- three rows (0,2), alone and among others
    why_none (replicate 3 (0, 2)) 2 gives span_with 0 2 3
    ∷ why_none ((0, 4) ∷ (0, 2) ∷ (2, 4) ∷ (0, 2) ∷ (0, 2) ∷ []) 4 gives span_with 0 2 3
    -- P3; four jobs in one slot
    ∷ why_none (replicate 2 (0, 1)) 1 gives span_with 0 1 2
    ∷ why_none (replicate 4 (2, 3)) 4 gives span_with 2 3 4
    -- the shortest, not the first that is crowded; of two that are equally short the earlier
    ∷ why_none (replicate 4 (0, 3) ++ replicate 3 (4, 6)) 6 gives span_with 4 6 3
    ∷ why_none (replicate 3 (4, 6) ++ replicate 3 (1, 3)) 6 gives span_with 1 3 3
    -- crowded only together: each window by itself has room
    ∷ why_none ((0, 3) ∷ (1, 3) ∷ (0, 3) ∷ (1, 2) ∷ []) 6 gives span_with 0 3 4
    -- as many jobs as slots is not crowded, nor are windows that only overlap; P8; and no jobs
    ∷ why_none (replicate 2 (0, 2)) 2 gives no_span_with 21 0
    ∷ why_none ((0, 2) ∷ (1, 2) ∷ (1, 3) ∷ []) 3 gives no_span_with 21 0
    ∷ why_none P8 10 gives no_span_with 21 0
    ∷ why_none [] 1 gives no_span_with 21 0
    -- T 0 and T 97; 41 rows, also where they are empty; (3,3) and d = T + 1, also where the list is crowded
    ∷ why_none [] 0 gives no_span_with 1 0
    ∷ why_none (replicate 41 (0, 1)) 97 gives no_span_with 1 0
    ∷ why_none (replicate 41 (3, 3)) 6 gives no_span_with 3 0
    ∷ why_none ((0, 6) ∷ (3, 3) ∷ []) 6 gives no_span_with 4 2
    ∷ why_none ((0, 1) ∷ (0, 1) ∷ (0, 7) ∷ []) 6 gives no_span_with 4 3
    ∷ []

abbrev pub CrowdExamplesHold : Type 0
CrowdExamplesHold = Table Explains crowd_examples
