-- The wrong programs of document 01 keep no promise: examples on which each goes wrong. Assumes nothing.
use Prim.Native.Nat.{ℕ, zero, suc, ◌≤◌, ◌<◌}
use mathlib.Core.Path.{◌≡◌, refl, sym, ◌∙◌, ap}
use mathlib.Core.List.{List, [], ◌∷◌, ◌++◌, map}
use mathlib.Core.Logic.{inl}
use native.Mathlib.Omega.{arith}
use lib.ListN.{length, get_or, drop, replicate, length-replicate}
use Rattle.day.specs.declared.Day.{Day}
use Rattle.day.specs.Windows.{Windows, windows, at}
use Rattle.day.specs.Plan.{Plan}
use Rattle.checks.specs.Answer.{done}
use Rattle.checks.specs.Check.{Accepted}
use Rattle.day.proofs.Cases.{give}
use Rattle.checks.proofs.Refusal.{code_of, then_next, then_clear}
use Rattle.checks.proofs.Check.{accepted_clear}
use Rattle.claim.specs.Claim.{Fit}
use Rattle.claim.proofs.Claim.{fit_clear}
use Rattle.claim.proofs.Rows.{row_at_none, row_at_here, row_at_other}
use Rattle.ledger.specs.declared.Counts.{Counts}
use Rattle.ledger.specs.Promise.{LedgerPromise}
use Rattle.ledger.proofs.Outer.{before_first_job}
use Rattle.demands.specs.Run.{Admitted}
use Rattle.demands.specs.Examples.{exactly, Is, Example, Shows, example, Each, none, one, examples}
use Rattle.demands.specs.Impostors.{
  Input,
  Planner,
  run_of,
  KeepsPromise,
  Does,
  Seven,
  Fixed,
  Writeless,
  Invented,
  Ledger,
  Planless,
  NoImpostor,
}
use Rattle.demands.proofs.BestPlan.{answers_admitted}
use Rattle.demands.proofs.Computed.{accepted_test}
use Rattle.demands.proofs.Examples.{examples_hold}
use Rattle.demands.proofs.WrongPrograms.{always_seven, fixed_plan, no_starts, first_placed, counts_without_plan}

each_at : {A : Type 0} {P : A → Type 0} {xs : List A} → Each P xs → (i : ℕ) (other : A) → i < length xs → P (get_or xs i other)
each_at none i other l = absurd (omega arith)
each_at (one p ps) zero other l = p
each_at (one p ps) (suc i) other l = each_at ps i other (omega arith)

-- stands for an example past the table's end
no_example : Example
no_example = example [] 0 (exactly 0) (exactly 0) 0 0 []

example_at : ℕ → Example
example_at i = get_or examples i no_example

-- the input of an example, with this L, these starts and a work table of as many places
input_of : Example → ℕ → List ℕ → ℕ → Input
input_of e wake starts places =
    record {
      day = record { slots = e.slots; power = record { wake = wake } };
      releases = map (λ j. j.0) e.jobs;
      deadlines = map (λ j. j.1) e.jobs;
      starts = starts;
      table = replicate places 0;
    }

-- P2, with another number where the start goes; P4; P5 and its rows swapped; P7

alone : Input
alone = input_of (example_at 2) 0 (5 ∷ []) 32

equals : Input
equals = input_of (example_at 4) 1 (0 ∷ 0 ∷ []) 75

rows : Input
rows = input_of (example_at 6) 3 (0 ∷ 0 ∷ []) 243

swapped : Input
swapped = input_of (example_at 7) 3 (0 ∷ 0 ∷ []) 243

fixed_rows : Input
fixed_rows = input_of (example_at 9) 0 (0 ∷ 0 ∷ []) 192

module _ (planner : Planner) (promised : KeepsPromise planner) where
  -- it shows what the table has at a place: its code and its starts
  shown : (i : ℕ) → i < length examples → (wake : ℕ) (starts : List ℕ) (places : ℕ) → Is (example_at i).wake wake
      → Is (example_at i).places places → length (example_at i).jobs ≤ length starts
      → ((planner (input_of (example_at i) wake starts places)).0.code ≡ (example_at i).code)
      × ((planner (input_of (example_at i) wake starts places)).1
      ≡ (example_at i).starts ++ drop (length (example_at i).starts) starts)
  unfolding example_at input_of
  shown i l wake starts places right enough room =
      give (each_at examples_hold i no_example l (run_of planner (input_of (example_at i) wake starts places))
      (record {
        releases = refl;
        deadlines = refl;
        slots = refl;
        wake = right;
        places = rw (length-replicate {A = ℕ} places 0) enough;
        room = room;
      })
      (promised (input_of (example_at i) wake starts places)))
      (λ (s : Shows (example_at i) (run_of planner (input_of (example_at i) wake starts places))). (rw s.answer, s.starts))

  alone_shown : ((planner alone).0.code ≡ done) × ((planner alone).1 ≡ 0 ∷ [])
  unfolding alone example_at examples
  alone_shown = shown 2 (omega arith) 0 (5 ∷ []) 32 (omega arith) (omega arith) (omega arith)

  equals_shown : ((planner equals).0.code ≡ done) × ((planner equals).1 ≡ 0 ∷ 1 ∷ [])
  unfolding equals example_at examples
  equals_shown = shown 4 (omega arith) 1 (0 ∷ 0 ∷ []) 75 refl (omega arith) (omega arith)

  fixed_shown : ((planner fixed_rows).0.code ≡ done) × ((planner fixed_rows).1 ≡ 0 ∷ 4 ∷ [])
  unfolding fixed_rows example_at examples
  fixed_shown = shown 9 (omega arith) 0 (0 ∷ 0 ∷ []) 192 refl (omega arith) (omega arith)

  rows_shown : ((planner rows).0.code ≡ done) × ((planner rows).1 ≡ 3 ∷ 4 ∷ [])
  unfolding rows example_at examples
  rows_shown = shown 6 (omega arith) 3 (0 ∷ 0 ∷ []) 243 refl (omega arith) (omega arith)

  swapped_shown : ((planner swapped).0.code ≡ done) × ((planner swapped).1 ≡ 4 ∷ 3 ∷ [])
  unfolding swapped example_at examples
  swapped_shown = shown 7 (omega arith) 3 (0 ∷ 0 ∷ []) 243 refl (omega arith) (omega arith)

  admitted : (input : Input) → (planner input).0.code ≡ done → Admitted (run_of planner input)
  admitted input code = answers_admitted (run_of planner input) (promised input) (inl code)

  not_seven : Does Seven planner → ⊥
  not_seven seven = omega (arith, alone_shown.0, seven alone (admitted alone alone_shown.0))

  not_fixed : (plan : Plan) → Does (Fixed plan) planner → ⊥
  unfolding rows swapped example_at examples input_of
  not_fixed plan fixed =
      omega (
        arith,
        ap (λ xs. at xs 0) rows_shown.1,
        ap (λ xs. at xs 0) swapped_shown.1,
        fixed rows (admitted rows rows_shown.0) rows_shown.0 0 (omega arith),
        fixed swapped (admitted swapped swapped_shown.0) swapped_shown.0 0 (omega arith),
      )

  not_writeless : Does Writeless planner → ⊥
  unfolding alone input_of
  not_writeless writeless =
      omega (arith, ap (λ xs. at xs 0) (sym alone_shown.1 ∙ writeless alone (admitted alone alone_shown.0)))

  -- the second row of two whose first starts at 0 starts at 1, or at 4
  not_invented : (invent : ℕ → ℕ → ℕ) → Does (Invented invent) planner → ⊥
  unfolding equals fixed_rows example_at examples input_of
  not_invented invent invented =
      omega (
        arith,
        ap (λ xs. at xs 1) equals_shown.1,
        ap (λ xs. at xs 1) fixed_shown.1,
        invented equals (admitted equals equals_shown.0) equals_shown.0 1 (omega arith) (omega arith),
        invented fixed_rows (admitted fixed_rows fixed_shown.0) fixed_shown.0 1 (omega arith) (omega arith),
        ap (λ xs. invent 1 (at xs 0)) equals_shown.1,
        ap (λ xs. invent 1 (at xs 0)) fixed_shown.1,
      )

-- one row that may start at slot 0 or 1, and what a ledger counts before it

two_slots : Day
two_slots = record { slots = 2; power = record { wake = 0 } }

either_slot : Windows
either_slot = windows (0 ∷ []) (2 ∷ [])

either_accepted : Accepted two_slots either_slot
unfolding two_slots either_slot
either_accepted = (accepted_test two_slots either_slot).shows refl

either_fits : (t : ℕ) → t < 2 → Fit either_slot (t ∷ [])
unfolding either_slot
either_fits t l =
    record {
      long = omega arith;
      proper =
          record {
            inside = λ i h. give {A = i ≡ 0} (omega arith) (λ z. rw z (omega arith));
            apart = λ i j h k e. omega arith;
          };
    }

module _ (ledger : Ledger) (promised : (day : Day) (w : Windows) (starts : List ℕ) → LedgerPromise day w starts (ledger day w starts)) where
  either_done : (t : ℕ) → t < 2 → (ledger two_slots either_slot (t ∷ [])).answer.code ≡ done
  either_done t l =
      code_of
      (then_next (then_clear (accepted_clear either_accepted) (fit_clear either_slot (t ∷ []) (either_fits t l))) (ledger two_slots either_slot (t ∷ [])).answer
      (promised two_slots either_slot (t ∷ [])).answer)

  before_either : (t : ℕ) → t < 2 → (ledger two_slots either_slot (t ∷ [])).counts.before ≡ t
  unfolding two_slots either_slot
  before_either t l =
      before_first_job t ((promised two_slots either_slot (t ∷ [])).accepted (either_done t l))
      (record {
        within = omega arith;
        fault = λ h e. omega (arith, row_at_here 0 (at (t ∷ [])) t refl);
        lowest = λ u h busy. busy (row_at_other 0 (at (t ∷ [])) u (λ e. omega arith) ∙ row_at_none (at (t ∷ [])) u);
      })

  not_planless : Planless ledger → ⊥
  not_planless planless =
      omega (
        arith,
        before_either 0 (omega arith),
        before_either 1 (omega arith),
        ap (λ (c : Counts). c.before)
            (planless two_slots either_slot (0 ∷ []) (1 ∷ []) (either_done 0 (omega arith)) (either_done 1 (omega arith))),
      )

pub no_impostor : NoImpostor
no_impostor =
    record {
      seven = record { breaks = λ planner seven promised. not_seven planner promised seven; exists = always_seven };
      fixed = λ plan. record { breaks = λ planner fixed promised. not_fixed planner promised plan fixed; exists = fixed_plan plan };
      writeless = record { breaks = λ planner writeless promised. not_writeless planner promised writeless; exists = no_starts };
      invented = λ invent.
          record { breaks = λ planner invented promised. not_invented planner promised invent invented; exists = first_placed invent };
      planless = record { breaks = λ ledger planless promised. not_planless ledger promised planless; exists = counts_without_plan };
    }
