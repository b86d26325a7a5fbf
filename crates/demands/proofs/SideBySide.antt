-- Two lists side by side. Assumes nothing.
use Prim.Native.Nat.{ℕ, ◌+◌, ◌≤◌, ◌<◌}
use mathlib.Core.Path.{◌≡◌, refl, sym, ◌∙◌, ap}
use mathlib.Core.List.{List, ◌++◌}
use mathlib.Core.Logic.{inl, inr, ⊎_elim}
use native.Mathlib.Omega.{arith}
use lib.ListN.{length, take, length-append}
use lib.Seq.{length-take-le, get_or-take, ext_get_or}
use Rattle.checks.specs.declared.Answer.{Answer}
use Rattle.day.specs.declared.Day.{Day}
use Rattle.day.specs.Windows.{Windows, at}
use Rattle.day.specs.Plan.{Plan}
use Rattle.day.specs.Gap.{cost}
use Rattle.checks.specs.Answer.{done}
use Rattle.day.specs.Joined.{beside, joined, joining, ListsApart}
use Rattle.day.proofs.Cases.{give}
use Rattle.checks.proofs.Refusal.{code_of}
use Rattle.day.proofs.Plan.{same_rows_turned, proper_cong, no_plan_cong}
use Rattle.day.proofs.Best.{best_cong, best_costs, best_unique}
use Rattle.day.proofs.Joined.{on_row, beside_first, beside_following}
use Rattle.day.proofs.JoinedCost.{joining_both, joining_first_empty, joining_second_empty}
use Rattle.day.proofs.Beside.{apart_by_wake, first_no_plan, second_no_plan, rest_no_plan, beside_proper, beside_best}
use Rattle.demands.specs.Run.{Run, list, Served}
use Rattle.demands.specs.BestPlan.{BestGiven}
use Rattle.demands.specs.SideBySide.{Joins, SideBySide, SevenOfEither, JoinsSideBySide, JoinsSeven}
use Rattle.demands.proofs.Joined.{append_beside}
use Rattle.demands.proofs.BestPlan.{best_or_none, done_best, GivenOn, given_on, seven_exactly}

-- a list that begins with n places of one and then m places of another
take_beside : (n m : ℕ) (xs ys zs : List ℕ) → n ≤ length xs → m ≤ length ys → n + m ≤ length zs
    → ((i : ℕ) → i < n + m → beside n (at xs) (at ys) i ≡ at zs i)
    → take (n + m) zs ≡ take n xs ++ take m ys
take_beside n m xs ys zs h k l f =
    ext_get_or 0 (take (n + m) zs) (take n xs ++ take m ys)
    (omega (
      arith,
      length-append (take n xs) (take m ys),
      length-take-le n xs h,
      length-take-le m ys k,
      length-take-le (n + m) zs l,
    ))
    (λ i b.
    give {A = i < n + m} (omega (arith, length-take-le (n + m) zs l))
    (λ below.
    get_or-take (n + m) zs i 0 below
    ∙ sym (f i below)
    ∙ on_row (λ i. beside n (at xs) (at ys) i ≡ beside n (at (take n xs)) (at (take m ys)) i) n m i below
    (λ j u. beside_first n (at xs) (at ys) j u ∙ sym (beside_first n (at (take n xs)) (at (take m ys)) j u ∙ get_or-take n xs j 0 u))
    (λ j u. beside_following n (at xs) (at ys) j ∙ sym (beside_following n (at (take n xs)) (at (take m ys)) j ∙ get_or-take m ys j 0 u))
    ∙ sym (append_beside (take n xs) (take m ys) n i (length-take-le n xs h))))

module _ (g : ℕ) (first second whole : Run) (joins : Joins g first second whole) where
  apart : ListsApart first.day.power g (g + first.day.power.wake) (list first) (list second)
  apart = apart_by_wake first.day.power g (list first) (list second) joins.by_g joins.wake_later

  -- the plans that the three runs hold

  abbrev p : Plan
  p = at first.starts_after

  abbrev q : Plan
  q = at second.starts_after

  abbrev r : Plan
  r = at whole.starts_after

  abbrev pair : Windows
  pair = joined (list first) (list second)

  module _ (one : Served first) (two : Served second) (all : Served whole) where
    second_in_day : (k : ℕ) → k < (list second).count → (list second).deadline k ≤ first.day.slots
    second_in_day k l = omega (arith, ap (λ (d : Day). d.slots) joins.day, two.admitted.accepted.rows.in_day k l)

    -- the best plan of the whole, against the best plans of the two
    record Together : Type 0 where
      code : whole.answer.code ≡ done
      same : (i : ℕ) → i < (list first).count + (list second).count
          → beside (list first).count p q i ≡ r i
      costs : whole.answer.first
          ≡ first.answer.first + second.answer.first + joining first.day.power (list first) (list second)

    together : BestGiven first → GivenOn first.day second → BestGiven whole → GivenOn first.day whole → Together
    together b c d e =
        give (beside_best apart second_in_day p q b.best c.best)
        (λ both.
        give (best_cong first.day (list whole) pair r r
        (same_rows_turned pair (list whole) joins.rows) (λ i l. refl) e.best)
        (λ there.
        record {
          code = code_of d.answer;
          same =
              best_unique first.day pair
              (beside (list first).count p q) r both.best there;
          costs =
              omega (
                arith,
                ap (λ (a : Answer). a.first) b.answer,
                ap (λ (a : Answer). a.first) c.answer,
                ap (λ (a : Answer). a.first) e.answer,
                ap (λ n. cost first.day n r) joins.rows.count,
                best_costs first.day pair
                    (beside (list first).count p q) r both.best
                    there,
                both.costs,
              );
        }))

    beside_each_other : first.answer.code ≡ done → second.answer.code ≡ done → SideBySide first second whole
    beside_each_other x y =
        give (done_best first one x)
        (λ b.
        give (given_on first.day second joins.day (done_best second two y))
        (λ c.
        ⊎_elim
        (λ d.
        give (together b c d (given_on first.day whole joins.whole_day d))
        (λ t.
        record {
          code = t.code;
          starts =
              ap (λ n. take n whole.starts_after) joins.rows.count
              ∙ take_beside (list first).count (list second).count first.starts_after second.starts_after whole.starts_after
              (omega (arith, b.others.long, one.admitted.room))
              (omega (arith, (done_best second two y).others.long, two.admitted.room))
              (omega (arith, d.others.long, all.admitted.room, joins.rows.count))
              t.same;
          with_wake = λ h l. omega (arith, t.costs, joining_both first.day.power (list first) (list second) h l);
          no_wake =
              ⊎_elim (λ z. omega (arith, t.costs, joining_first_empty first.day.power (list first) (list second) z))
              (λ z. omega (arith, t.costs, joining_second_empty first.day.power (list first) (list second) z));
        }))
        (λ n.
        absurd (n.none (beside (list first).count p q)
        (proper_cong pair (list whole) _ _ joins.rows (λ i l. refl)
        (beside_proper apart p q b.best.proper c.best.proper))))
        (best_or_none whole all)))

    seven_of_either : SevenOfEither first second whole
    seven_of_either =
        record {
          only_if = λ code.
              give (no_plan_cong (list whole) pair
              (same_rows_turned pair (list whole) joins.rows) ((seven_exactly whole all).only_if code))
              (λ none.
              ⊎_elim
              (λ b. inr ((seven_exactly second two).whenever (rest_no_plan apart none p b.best.proper)))
              (λ n. inl (code_of n.answer))
              (best_or_none first one));
          of_first = λ code.
              (seven_exactly whole all).whenever
              (no_plan_cong pair (list whole) joins.rows
              (first_no_plan (list first) (list second) ((seven_exactly first one).only_if code)));
          of_second = λ code.
              (seven_exactly whole all).whenever
              (no_plan_cong pair (list whole) joins.rows
              (second_no_plan (list first) (list second) ((seven_exactly second two).only_if code)));
        }

pub joins_side_by_side : JoinsSideBySide
joins_side_by_side = beside_each_other

pub joins_seven : JoinsSeven
joins_seven = seven_of_either
