-- Two lists side by side: the cost of the joined list is the sum of the costs, and a wake for what lies between. Assumes nothing.
use Prim.Native.Nat.{ℕ, suc, ◌+◌, ◌-◌, ◌≤◌, ◌<◌}
use mathlib.Core.Path.{◌≡◌, refl}
use native.Mathlib.Omega.{arith}
use lib.Dec.{eqb}
use borrow.Author.Tests.{eq-eqb, ne_eqb}
use Rattle.day.specs.declared.Power.{Power}
use Rattle.day.specs.declared.Day.{Day}
use Rattle.day.specs.Windows.{Windows}
use Rattle.day.specs.Plan.{Plan, Proper, taken}
use Rattle.day.specs.Gap.{price, cost}
use Rattle.day.specs.Joined.{following, joined, joining, ListsApart}
use Rattle.day.proofs.Cases.{give, on_le, or_right}
use Rattle.day.proofs.Plan.{Taker, taken_intro, taken_false}
use Rattle.day.proofs.Gap.{cost_same, cost_none}
use Rattle.day.proofs.Far.{cost_far}
use Rattle.day.proofs.FarCut.{whole, whole_joined}
use Rattle.day.proofs.Outermost.{Outermost, Earlier, Later, last_start, first_start}
use Rattle.day.proofs.Joined.{on_row, first_proper, second_proper, first_ends, second_begins, starts_apart}
use Rattle.day.proofs.JoinedTaken.{taken_first, taken_following}

-- the last job of the first list stands before the first job of the second
module _ (day : Day) (n m : ℕ) (r : Plan) (last : Outermost Earlier n r) (first : Outermost Later m (following n r))
    (order : r last.row < r (n + first.row)) where
  not_first : (t : ℕ) → r last.row < t → Taker n r t → ⊥
  not_first t l w = omega (arith, last.others w.row w.below)

  not_second : (t : ℕ) → t < r (n + first.row) → Taker m (following n r) t → ⊥
  not_second t l w = omega (arith, first.others w.row w.below)

  whole_of_parts : r (n + first.row) < day.slots
      → whole day (taken (n + m) r) + (day.power.wake + day.power.wake)
      ≡ whole day (taken n r) + whole day (taken m (following n r)) + price day.power (r (n + first.row) - suc (r last.row))
  whole_of_parts inside =
      whole_joined day (taken (n + m) r) (taken n r) (taken m (following n r)) (r last.row) (r (n + first.row)) order inside
      (taken_intro n r (r last.row) last.row last.below refl)
      (taken_intro m (following n r) (r (n + first.row)) first.row first.below refl)
      (λ t l. (taken_first n m r t (not_second t l), taken_false m (following n r) t (not_second t l)))
      (λ t l. (taken_following n m r t (not_first t l), taken_false n r t (not_first t l)))

-- what joining adds

pub joining_both : (power : Power) (w v : Windows) → 0 < w.count → 0 < v.count → joining power w v ≡ power.wake
joining_both power w v some more =
    rw (ne_eqb w.count 0 (λ z. omega arith), ne_eqb v.count 0 (λ z. omega arith))

pub joining_first_empty : (power : Power) (w v : Windows) → w.count ≡ 0 → joining power w v ≡ 0
joining_first_empty power w v none = rw (eq-eqb w.count 0 none)

pub joining_second_empty : (power : Power) (w v : Windows) → v.count ≡ 0 → joining power w v ≡ 0
joining_second_empty power w v none =
    rw (or_right (eqb w.count 0) (eqb v.count 0) (eq-eqb v.count 0 none))

-- where a list is empty, the joined list costs what the other does

cost_empty : (day : Day) (n : ℕ) (p : Plan) → n ≡ 0 → cost day n p ≡ 0
cost_empty day n p none = rw none (cost_none day p)

module _ (day : Day) (n m : ℕ) (r : Plan) where
  first_empty_cost : n ≡ 0 → cost day (n + m) r ≡ cost day n r + cost day m (following n r)
  first_empty_cost none =
      omega (
        arith,
        cost_empty day n r none,
        cost_same day (n + m) m r (following n r) (λ t l. taken_following n m r t (λ w. omega arith)),
      )

  second_empty_cost : m ≡ 0 → cost day (n + m) r ≡ cost day n r + cost day m (following n r)
  second_empty_cost none =
      omega (
        arith,
        cost_empty day m (following n r) none,
        cost_same day (n + m) n r r (λ t l. taken_first n m r t (λ w. omega arith)),
      )

module _ {day : Day} {g h : ℕ} {w v : Windows} (apart : ListsApart day.power g h w v)
    (within : (k : ℕ) → k < v.count → v.deadline k ≤ day.slots) where
  -- with a job in the second list, the joined list stays in the day
  starts_inside : (r : Plan) → Proper (joined w v) r → 0 < v.count → (i : ℕ) → i < w.count + v.count → r i < day.slots
  starts_inside r P more i l =
      give (λ (k : ℕ) (b : k < v.count). omega (arith, within k b, (second_proper w v r P).inside k b))
      (λ (second : (k : ℕ) → k < v.count → r (w.count + k) < day.slots).
      on_row (λ i. r i < day.slots) w.count v.count i l
      (λ j b.
      omega (
        arith,
        starts_apart apart r (following w.count r) (first_proper w v r P) (second_proper w v r P) j 0 b more,
        second 0 more,
      ))
      second)

  -- what lies between a row of the first list and one of the second costs a wake
  price_between : (r : Plan) → Proper (joined w v) r → (i k : ℕ) → i < w.count → k < v.count
      → price day.power (r (w.count + k) - suc (r i)) ≡ day.power.wake
  price_between r P i k l m =
      apart.between (r (w.count + k) - suc (r i))
      (omega (
        arith,
        first_ends apart r (first_proper w v r P) i l,
        second_begins apart (following w.count r) (second_proper w v r P) k m,
      ))

  -- with jobs in both lists
  both_cost : (r : Plan) → Proper (joined w v) r → 0 < w.count → 0 < v.count
      → cost day (w.count + v.count) r
      ≡ cost day w.count r + cost day v.count (following w.count r) + day.power.wake
  both_cost r P some more =
      give (last_start w.count r some)
      (λ last.
      give (first_start v.count (following w.count r) more)
      (λ first.
      give (starts_inside r P more)
      (λ inside.
      omega (
        arith,
        cost_far day (w.count + v.count) r (omega arith) inside,
        cost_far day w.count r some (λ i l. inside i (omega arith)),
        cost_far day v.count (following w.count r) more (λ k l. inside (w.count + k) (omega arith)),
        whole_of_parts day w.count v.count r last first
            (starts_apart apart r (following w.count r) (first_proper w v r P) (second_proper w v r P)
            last.row first.row last.below first.below)
            (inside (w.count + first.row) (omega (arith, first.below))),
        price_between r P last.row first.row last.below first.below,
      ))))

  -- the cost of the joined list is the sum of the costs and what joining adds
  pub joined_cost : (r : Plan) → Proper (joined w v) r
      → cost day (w.count + v.count) r
      ≡ cost day w.count r + cost day v.count (following w.count r) + joining day.power w v
  joined_cost r P =
      on_le 1 w.count
      (λ some.
      on_le 1 v.count
      (λ more. omega (arith, both_cost r P some more, joining_both day.power w v some more))
      (λ none.
      let empty : v.count ≡ 0 = omega arith in
      omega (
        arith,
        second_empty_cost day w.count v.count r empty,
        joining_second_empty day.power w v empty,
      )))
      (λ none.
      let empty : w.count ≡ 0 = omega arith in
      omega (
        arith,
        first_empty_cost day w.count v.count r empty,
        joining_first_empty day.power w v empty,
      ))
