-- Laws of the row in a slot. Assumes nothing.
use Prim.Native.Nat.{ℕ, zero, suc, ◌+◌, ◌-◌, ◌≤◌, ◌<◌}
use mathlib.Core.Path.{◌≡◌, refl, sym, ◌∙◌}
use mathlib.Core.Bool.{true, false}
use mathlib.Core.List.{List}
use native.Mathlib.Omega.{arith}
use native.Mathlib.Numerals.{add-one}
use lib.Dec.{eqb-suc-zero}
use lib.ListN.{length, take, drop, set, length-set, replicate, length-replicate, get_or-replicate}
use Rattle.std.proofs.lemmas.List.{take_rest, length-drop, get_or-drop}
use lib.Seq.{get_or-set_same, get_or-set_other, get_or-take, length-take-le}
use borrow.Author.Tests.{eq-eqb, ne_eqb}
use Rattle.day.specs.Windows.{at}
use Rattle.day.specs.Plan.{Plan, taken}
use Rattle.checks.specs.Check.{most_slots}
use Rattle.day.proofs.Cases.{on_eq, on_le}
use Rattle.claim.specs.Rows.{row_at, RowsBySlot, NextJob, holds_job}

pub row_at_none : (start : Plan) (t : ℕ) → row_at 0 start t ≡ 0
unfolding row_at
row_at_none start t = refl

pub row_at_here : (n : ℕ) (start : Plan) (t : ℕ) → start n ≡ t → row_at (suc n) start t ≡ suc n
unfolding row_at
row_at_here n start t h = rw (eq-eqb (start n) t h)

pub row_at_other : (n : ℕ) (start : Plan) (t : ℕ) → (start n ≡ t → ⊥) → row_at (suc n) start t ≡ row_at n start t
unfolding row_at
row_at_other n start t h = rw (ne_eqb (start n) t h)

-- one more row goes into its slot
pub rows_next : (n : ℕ) (start : Plan) (rows : List ℕ) (slot : ℕ) → slot ≡ start n → slot < most_slots → RowsBySlot n start rows
    → RowsBySlot (n + 1) start (set rows slot (n + 1))
rows_next n start rows slot here h r =
    rw (add-one, here)
    record {
      long = length-set rows (start n) (suc n) ∙ r.long;
      each = λ t l.
          on_eq (start n) t
          (λ e. rw (row_at_here n start t e, ← e) (get_or-set_same rows (start n) (suc n) 0 (omega (arith, r.long))))
          (λ e. get_or-set_other rows (start n) t (suc n) 0 (λ q. e (sym q)) ∙ r.each t l ∙ sym (row_at_other n start t e));
    }

-- only the first n starts matter
row_at_same : (n : ℕ) (start other : Plan) (t : ℕ) → ((i : ℕ) → i < n → start i ≡ other i) → row_at n start t ≡ row_at n other t
unfolding row_at
row_at_same zero start other t same = refl
row_at_same (suc n) start other t same = rw (same n (omega arith), row_at_same n start other t (λ i h. same i (omega arith)))

-- the rows of the first n starts, as a list of their own
pub rows_of_first : {rows : List ℕ} (n : ℕ) (starts : List ℕ) → n ≤ length starts
    → RowsBySlot (length (take n starts)) (at (take n starts)) rows → RowsBySlot n (at starts) rows
rows_of_first n starts h r =
    let all : length (take n starts) ≡ n = length-take-le n starts h in
    record {
      long = r.long;
      each = λ t l. rw all at (r.each t l) ∙ row_at_same n (at (take n starts)) (at starts) t (λ i k. get_or-take n starts i 0 k);
    }

-- at the start no row stands anywhere
pub rows_none : (start : Plan) → RowsBySlot 0 start (replicate most_slots 0)
rows_none start =
    record {
      long = length-replicate {A = ℕ} most_slots 0;
      each = λ t l. get_or-replicate {A = ℕ} most_slots t 0 0 l ∙ sym (row_at_none start t);
    }

pub holds_job_true : (row : ℕ → ℕ) (t : ℕ) → (row t ≡ 0 → ⊥) → holds_job row t ≡ true
unfolding holds_job
holds_job_true row t h = rw (ne_eqb (row t) 0 h)

pub holds_job_false : (row : ℕ → ℕ) (t : ℕ) → row t ≡ 0 → holds_job row t ≡ false
unfolding holds_job
holds_job_false row t h = rw (eq-eqb (row t) 0 h)

-- of rows that all start apart, each stands in its slot
pub row_at_own : (n : ℕ) (start : Plan) (i : ℕ) → i < n → ((j k : ℕ) → j < n → k < n → start j ≡ start k → j ≡ k)
    → row_at n start (start i) ≡ suc i
row_at_own zero start i h apart = absurd (omega arith)
row_at_own (suc n) start i h apart =
    on_eq i n (λ e. rw e (row_at_here n start (start n) refl))
    (λ e.
    row_at_other n start (start i) (λ q. e (sym (apart n i (omega arith) h q)))
    ∙ row_at_own n start i (omega arith) (λ j k a b. apart j k (omega arith) (omega arith)))

-- a slot holds a job exactly if one of the rows takes it
pub row_at_taken : (n : ℕ) (start : Plan) (t : ℕ) → holds_job (row_at n start) t ≡ taken n start t
unfolding holds_job row_at taken
row_at_taken zero start t = refl
row_at_taken (suc n) start t =
    on_eq (start n) t (λ e. rw (eq-eqb (start n) t e, eqb-suc-zero n)) (λ e. rw (ne_eqb (start n) t e) (row_at_taken n start t))

-- the rows of a day's slots, slot by slot
pub rows_each : {n : ℕ} {start : Plan} {rows : List ℕ} → RowsBySlot n start rows → (m t : ℕ) → m ≤ most_slots → t < m
    → at (take m rows) t ≡ row_at n start t
rows_each {n} {start} {rows} r m t within h = get_or-take m rows t 0 h ∙ r.each t (omega arith)

pub holds_taken : {n : ℕ} {start : Plan} {rows : List ℕ} → RowsBySlot n start rows → (m t : ℕ) → m ≤ most_slots → t < m
    → holds_job (at (take m rows)) t ≡ taken n start t
unfolding holds_job
holds_taken {n} {start} {rows} r m t within h = rw (rows_each r m t within h) (row_at_taken n start t)

-- the first slots of the list are the slots of a day
pub record Cut (rows : List ℕ) (slots : ℕ) : Type 0 where
  pub small : slots ≤ most_slots
  pub room : slots ≤ length rows
  pub long : length (take slots rows) ≡ slots

pub rows_cut : {n : ℕ} {start : Plan} {rows : List ℕ} → RowsBySlot n start rows → (slots : ℕ) → slots ≤ most_slots → Cut rows slots
rows_cut {n} {start} {rows} r slots within =
    let room : slots ≤ length rows = omega (arith, r.long) in
    record { small = within; room = room; long = length-take-le slots rows room }

-- the search for the next job stays within the list
pub next_within : {rows : List ℕ} {from slot : ℕ} → NextJob rows from slot → from ≤ length rows → slot ≤ length rows
next_within {rows} {from} {slot} next h = on_le slot from (λ l. omega arith) (λ l. next.within l)

-- the slots of a list from one of them on, as a list of their own
abbrev pub slots_from : ℕ → List ℕ → List ℕ
slots_from first rows = take (length rows - first) (drop first rows)

pub slots_from_length : (rows : List ℕ) (first : ℕ) → length (slots_from first rows) ≡ length rows - first
slots_from_length rows first = rw take_rest (length-drop first rows)

pub slots_from_at : (rows : List ℕ) (first i : ℕ) → at (slots_from first rows) i ≡ at rows (first + i)
slots_from_at rows first i = rw take_rest (get_or-drop first rows i 0)
