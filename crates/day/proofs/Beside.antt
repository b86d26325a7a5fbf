-- Side by side: for two lists with a wake between them, the best plan of the joined list is the best plans of the two, side by side.
-- Assumes nothing.
use Prim.Native.Nat.{ℕ, ◌+◌, ◌≤◌, ◌<◌}
use mathlib.Core.Path.{◌≡◌, sym}
use native.Mathlib.Omega.{arith}
use Rattle.day.specs.declared.Power.{Power}
use Rattle.day.specs.declared.Day.{Day}
use Rattle.day.specs.Windows.{Windows}
use Rattle.day.specs.Plan.{Plan, Proper, NoPlan}
use Rattle.day.specs.Gap.{cost}
use Rattle.day.specs.Best.{Best}
use Rattle.day.specs.Joined.{beside, following, joined, joining, ListsApart}
use Rattle.day.proofs.Cases.{give}
use Rattle.day.proofs.Plan.{same_rows_refl, proper_cong}
use Rattle.day.proofs.Gap.{price_long, cost_agree}
use Rattle.day.proofs.Best.{best_cong}
use Rattle.day.proofs.Joined.{beside_first, beside_following, first_proper, second_proper, joined_proper, joined_as_late}
use Rattle.day.proofs.JoinedCost.{joined_cost}

-- where the first list ends by g and the second begins at g + L or later, they are apart
pub apart_by_wake : (power : Power) (g : ℕ) (w v : Windows)
    → ((i : ℕ) → i < w.count → w.deadline i ≤ g)
    → ((k : ℕ) → k < v.count → g + power.wake ≤ v.release k)
    → ListsApart power g (g + power.wake) w v
apart_by_wake power g w v first second =
    record { order = omega arith; first = first; second = second; between = λ x l. price_long power x (omega arith) }

module _ (w v : Windows) where
  -- a list without a plan joins to none

  pub first_no_plan : NoPlan w → NoPlan (joined w v)
  first_no_plan none r P = none r (first_proper w v r P)

  pub second_no_plan : NoPlan v → NoPlan (joined w v)
  second_no_plan none r P = none (following w.count r) (second_proper w v r P)

module _ {power : Power} {g h : ℕ} {w v : Windows} (apart : ListsApart power g h w v) where
  pub beside_proper : (p q : Plan) → Proper w p → Proper v q → Proper (joined w v) (beside w.count p q)
  beside_proper p q P Q =
      joined_proper apart (beside w.count p q)
      (proper_cong w w p (beside w.count p q) (same_rows_refl w) (λ i l. sym (beside_first w.count p q i l)) P)
      (proper_cong v v q (following w.count (beside w.count p q)) (same_rows_refl v) (λ k l. sym (beside_following w.count p q k)) Q)

  -- two lists that join to none: where the first has a plan, the second has none
  pub rest_no_plan : NoPlan (joined w v) → (p : Plan) → Proper w p → NoPlan v
  rest_no_plan none p P q Q = none (beside w.count p q) (beside_proper p q P Q)

-- the best plan of the joined list, made of the best plans of its parts
pub record BesideBest (day : Day) (w v : Windows) (p q : Plan) : Type 0 where
  pub best : Best day (joined w v) (beside w.count p q)
  pub costs : cost day (w.count + v.count) (beside w.count p q)
      ≡ cost day w.count p + cost day v.count q + joining day.power w v

module _ {day : Day} {g h : ℕ} {w v : Windows} (apart : ListsApart day.power g h w v)
    (within : (k : ℕ) → k < v.count → v.deadline k ≤ day.slots) where
  pub beside_cost : (p q : Plan) → Proper w p → Proper v q
      → cost day (w.count + v.count) (beside w.count p q)
      ≡ cost day w.count p + cost day v.count q + joining day.power w v
  beside_cost p q P Q =
      omega (
        arith,
        joined_cost apart within (beside w.count p q) (beside_proper apart p q P Q),
        cost_agree day w.count (beside w.count p q) p (beside_first w.count p q),
        cost_agree day v.count (following w.count (beside w.count p q)) q (λ k l. beside_following w.count p q k),
      )

  joined_best : (r : Plan) → Best day w r → Best day v (following w.count r) → Best day (joined w v) r
  joined_best r B C =
      give (joined_proper apart r B.proper C.proper)
      (λ P.
      give (joined_cost apart within r P)
      (λ c.
      record {
        proper = P;
        cheapest = λ s S.
            omega (
              arith,
              joined_cost apart within s S,
              B.cheapest s (first_proper w v s S),
              C.cheapest (following w.count s) (second_proper w v s S),
            );
        latest = λ s S e.
            give (joined_cost apart within s S)
            (λ d.
            give (B.cheapest s (first_proper w v s S))
            (λ a.
            give (C.cheapest (following w.count s) (second_proper w v s S))
            (λ b.
            joined_as_late apart r s (following w.count r) C.proper
            (B.latest s (first_proper w v s S) (omega arith))
            (C.latest (following w.count s) (second_proper w v s S) (omega arith)))));
      }))

  pub beside_best : (p q : Plan) → Best day w p → Best day v q → BesideBest day w v p q
  beside_best p q B C =
      record {
        best =
            joined_best (beside w.count p q)
            (best_cong day w w p (beside w.count p q) (same_rows_refl w) (λ i l. sym (beside_first w.count p q i l)) B)
            (best_cong day v v q (following w.count (beside w.count p q)) (same_rows_refl v)
            (λ k l. sym (beside_following w.count p q k)) C);
        costs = beside_cost p q B.proper C.proper;
      }
