-- Examples of pricing a claimed plan, and of the choice between two, with document 01's own numbers.
use Rattle.std.specs.Prelude.{ℕ, zero, suc, List, [], ◌∷◌, ◌++◌, replicate}
use Rattle.checks.specs.declared.Answer.{Answer}
use Rattle.day.specs.declared.Day.{Day}
use Rattle.day.specs.Windows.{Windows}
use Rattle.claim.specs.Claim.{PricePromise}
use Rattle.choice.specs.Choice.{ChoicePromise}
use Rattle.demands.specs.ExamplesTable.{answer_of, ◌gives◌, Table, day_with, list_with, P8}

pub record Claim : Type 0 where
  pub day : Day
  pub rows : Windows
  pub starts : List ℕ

-- rows, T, L, and the claimed starts
abbrev pub claim_of : List (ℕ × ℕ) → ℕ → ℕ → List ℕ → Claim
claim_of jobs slots wake starts = record { day = day_with slots wake; rows = list_with jobs; starts = starts }

abbrev pub CostsAs : Claim → Answer → Type 0
CostsAs claim = PricePromise claim.day claim.rows claim.starts

-- one row for each slot below n, and its start
unfoldable pub a_row_a_slot : ℕ → List (ℕ × ℕ)
a_row_a_slot zero = []
a_row_a_slot (suc n) = a_row_a_slot n ++ ((n, suc n) ∷ [])

unfoldable pub a_start_a_slot : ℕ → List ℕ
a_start_a_slot zero = []
a_start_a_slot (suc n) = a_start_a_slot n ++ (n ∷ [])

unfoldable pub priced_examples : List (Claim × Answer)
priced_examples =
    -- P8 with L 3: gaps of 6 and 1 slots, of 2 and 5, of 3 and 4
    claim_of P8 10 3 (0 ∷ 7 ∷ 9 ∷ []) gives answer_of 0 4 0
    ∷ claim_of P8 10 3 (0 ∷ 3 ∷ 9 ∷ []) gives answer_of 0 5 0
    ∷ claim_of P8 10 3 (0 ∷ 4 ∷ 9 ∷ []) gives answer_of 0 6 0
    -- L 0, 1 and 1,000
    ∷ claim_of P8 10 0 (0 ∷ 7 ∷ 9 ∷ []) gives answer_of 0 0 0
    ∷ claim_of P8 10 1 (0 ∷ 7 ∷ 9 ∷ []) gives answer_of 0 2 0
    ∷ claim_of P8 10 1000 (0 ∷ 7 ∷ 9 ∷ []) gives answer_of 0 7 0
    -- only the first n starts count
    ∷ claim_of P8 10 3 (0 ∷ 7 ∷ 9 ∷ 9 ∷ []) gives answer_of 0 4 0
    -- no jobs; T 96; 40 jobs
    ∷ claim_of [] 1 5 [] gives answer_of 0 0 0
    ∷ claim_of [] 96 5 [] gives answer_of 0 0 0
    ∷ claim_of (a_row_a_slot 40) 40 3 (a_start_a_slot 40) gives answer_of 0 0 0
    -- T 0, T 97, L 1,001, 41 jobs, (3,3), d = T + 1
    ∷ claim_of [] 0 5 [] gives answer_of 1 0 0
    ∷ claim_of [] 97 5 [] gives answer_of 1 0 0
    ∷ claim_of P8 10 1001 (0 ∷ 7 ∷ 9 ∷ []) gives answer_of 2 0 0
    ∷ claim_of (replicate 41 (0, 1)) 1 5 [] gives answer_of 3 0 0
    ∷ claim_of ((0, 1) ∷ (3, 3) ∷ []) 6 3 [] gives answer_of 4 2 0
    ∷ claim_of P8 9 3 (0 ∷ 7 ∷ 9 ∷ []) gives answer_of 4 3 0
    -- fewer starts than jobs, also where one is outside its window
    ∷ claim_of P8 10 3 (0 ∷ 7 ∷ []) gives answer_of 5 0 0
    ∷ claim_of P8 10 3 (1 ∷ 7 ∷ []) gives answer_of 5 0 0
    -- a start before its release, at its deadline, and the largest number
    ∷ claim_of P8 10 3 (0 ∷ 1 ∷ 9 ∷ []) gives answer_of 14 2 0
    ∷ claim_of P8 10 3 (0 ∷ 8 ∷ 10 ∷ []) gives answer_of 14 2 0
    ∷ claim_of P8 10 3 (0 ∷ 7 ∷ 65535 ∷ []) gives answer_of 14 3 0
    -- equal starts: the lowest row of any pair, then its lowest partner; 14 over all rows comes before
    ∷ claim_of ((0, 2) ∷ (0, 2) ∷ []) 2 1 (0 ∷ 0 ∷ []) gives answer_of 15 1 2
    ∷ claim_of ((0, 3) ∷ (0, 3) ∷ (0, 3) ∷ (0, 3) ∷ []) 3 1 (1 ∷ 2 ∷ 2 ∷ 1 ∷ []) gives answer_of 15 1 4
    ∷ claim_of ((0, 3) ∷ (0, 3) ∷ (0, 3) ∷ (0, 3) ∷ []) 3 1 (0 ∷ 2 ∷ 2 ∷ 2 ∷ []) gives answer_of 15 2 3
    ∷ claim_of ((0, 2) ∷ (0, 2) ∷ (0, 2) ∷ []) 2 1 (0 ∷ 0 ∷ 2 ∷ []) gives answer_of 14 3 0
    ∷ []

abbrev pub PricedExamplesHold : Type 0
PricedExamplesHold = Table CostsAs priced_examples

-- two claimed plans for one list
pub record TwoPlans : Type 0 where
  pub day : Day
  pub rows : Windows
  pub own : List ℕ
  pub server : List ℕ

-- rows, T, L, the notebook's own starts and the server's
abbrev pub two_plans : List (ℕ × ℕ) → ℕ → ℕ → List ℕ → List ℕ → TwoPlans
two_plans jobs slots wake own server =
    record { day = day_with slots wake; rows = list_with jobs; own = own; server = server }

-- what the companion answers
abbrev pub ChosenAs : TwoPlans → Answer → Type 0
ChosenAs two = ChoicePromise two.day two.rows two.own two.server

unfoldable pub chosen_examples : List (TwoPlans × Answer)
chosen_examples =
    -- P8 with L 3: cost 4 against 5, 5 against 4, and 5 against 5 either way
    two_plans P8 10 3 (0 ∷ 7 ∷ 9 ∷ []) (0 ∷ 3 ∷ 9 ∷ []) gives answer_of 0 1 0
    ∷ two_plans P8 10 3 (0 ∷ 3 ∷ 9 ∷ []) (0 ∷ 7 ∷ 9 ∷ []) gives answer_of 0 2 0
    ∷ two_plans P8 10 3 (0 ∷ 3 ∷ 9 ∷ []) (0 ∷ 6 ∷ 9 ∷ []) gives answer_of 0 1 0
    ∷ two_plans P8 10 3 (0 ∷ 6 ∷ 9 ∷ []) (0 ∷ 3 ∷ 9 ∷ []) gives answer_of 0 1 0
    -- only one is proper: the other has a start at its deadline, or fewer starts than jobs
    ∷ two_plans P8 10 3 (0 ∷ 4 ∷ 9 ∷ []) (0 ∷ 8 ∷ 9 ∷ []) gives answer_of 0 1 0
    ∷ two_plans P8 10 3 (0 ∷ 7 ∷ []) (0 ∷ 4 ∷ 9 ∷ []) gives answer_of 0 2 0
    -- neither is
    ∷ two_plans P8 10 3 (0 ∷ 7 ∷ []) (0 ∷ 8 ∷ 9 ∷ []) gives answer_of 16 0 0
    ∷ two_plans ((0, 2) ∷ (0, 2) ∷ []) 2 1 (0 ∷ 0 ∷ []) (1 ∷ 1 ∷ []) gives answer_of 16 0 0
    -- 1 to 4 come before
    ∷ two_plans P8 97 3 (0 ∷ 7 ∷ []) (0 ∷ 8 ∷ 9 ∷ []) gives answer_of 1 0 0
    ∷ two_plans P8 10 1001 (0 ∷ 7 ∷ 9 ∷ []) (0 ∷ 3 ∷ 9 ∷ []) gives answer_of 2 0 0
    ∷ two_plans (replicate 41 (0, 1)) 1 5 [] [] gives answer_of 3 0 0
    ∷ two_plans P8 9 3 (0 ∷ 7 ∷ []) (0 ∷ 8 ∷ 9 ∷ []) gives answer_of 4 3 0
    ∷ []

abbrev pub ChosenExamplesHold : Type 0
ChosenExamplesHold = Table ChosenAs chosen_examples
