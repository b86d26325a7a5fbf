-- Tests of a list of numbers: that it is accepted, that its rows are numbered by counting, and what its best plan is by the rule; and of what the
-- planner promises. Assumes nothing.
use Prim.Native.Nat.{ℕ, zero, suc, ◌+◌, ◌≤◌, ◌<◌}
use mathlib.Core.Path.{◌≡◌, ap}
use mathlib.Core.Bool.{cond}
use mathlib.Core.List.{List}
use native.Mathlib.Omega.{arith}
use lib.Dec.{eqb}
use lib.ListN.{length}
use Rattle.checks.specs.declared.Answer.{Answer}
use Rattle.day.specs.declared.Day.{Day}
use Rattle.day.specs.Windows.{Windows, at}
use Rattle.day.specs.Plan.{Plan, NoPlan}
use Rattle.day.specs.Number.{Lower, Numbered}
use Rattle.day.specs.Gap.{price, cost}
use Rattle.day.specs.Far.{far_price}
use Rattle.day.specs.Best.{Best}
use Rattle.checks.specs.Answer.{says, done, no_plan}
use Rattle.checks.specs.Refusal.{stops, goes_on}
use Rattle.checks.specs.Zero.{zeroed}
use Rattle.checks.specs.Check.{most_slots, most_wake, most_jobs, GoodRows, Accepted}
use Rattle.day.proofs.Bound.{cost_at_most_slots}
use Rattle.rule.specs.Extreme.{least, latest}
use Rattle.rule.specs.Span.{in_span, clear, may_split, value_by, value, sides, best_split, split, read_back}
use Rattle.rule.specs.Whole.{whole, whole_back, Ready}
use Rattle.rule.proofs.Whole.{whole_none, whole_best}
use Rattle.planner.specs.Table.{need}
use Rattle.checks.specs.Planned.{costs, none_proper, Planned}
use Rattle.planner.specs.Promise.{PlanCheck}
use Rattle.checks.proofs.Planned.{planned_refused, best_in}
use Rattle.demands.proofs.Test.{Test, less, at_most, equal, both, either, any_of, through, differ, is_less, all_below, same_numbers, same_from, same_answer}
use Rattle.demands.proofs.ExamplesChecked.{Judge, judge_then, judge_whole, judge_list}

abbrev rows_test : (limit slots : ℕ) (w : Windows) → Test (GoodRows limit slots w)
rows_test limit slots w =
    through (λ t. record { count = t.0; window = λ i l. (t.1 i l).0; in_day = λ i l. (t.1 i l).1 })
    (both (at_most w.count limit)
    (all_below {P = λ i. (w.release i < w.deadline i) × (w.deadline i ≤ slots)}
    (λ i. both (less (w.release i) (w.deadline i)) (at_most (w.deadline i) slots)) w.count))

-- codes 1 to 4 refuse nothing
abbrev pub accepted_test : (day : Day) (w : Windows) → Test (Accepted day w)
accepted_test day w =
    through (λ t. record { some_slots = t.0.0; slots = t.0.1; wake = t.1.0; rows = t.1.1 })
    (both (both (less 0 day.slots) (at_most day.slots most_slots))
    (both (at_most day.power.wake most_wake) (rows_test most_jobs day.slots w)))

abbrev lower_test : (deadline : ℕ → ℕ) (i j : ℕ) → Test (Lower deadline i j)
lower_test deadline i j =
    either (less (deadline i) (deadline j)) (both (equal (deadline i) (deadline j)) (less i j))

-- the number of row i among n rows: how many of them are lower
unfoldable pub number : (ℕ → ℕ) → ℕ → ℕ → ℕ
number deadline zero i = 0
number deadline (suc n) i = cond (lower_test deadline n i).passes (suc (number deadline n i)) (number deadline n i)

-- the row with number k
unfoldable pub row : Windows → ℕ → ℕ
row w k = latest (λ i. eqb (number w.deadline w.count i) k) w.count

abbrev pub numbered_test : (w : Windows) → Test (Numbered w.count w.deadline (row w))
numbered_test w =
    through
    (λ t.
    record {
      within = t.0;
      rising = λ k l h b. t.1.0 l b k h;
      each = λ i l. (number w.deadline w.count i, (t.1.1 i l).0, (t.1.1 i l).1);
    })
    (both (all_below {P = λ k. row w k < w.count} (λ k. less (row w k) w.count) w.count)
    (both
    (all_below {P = λ l. (k : ℕ) → k < l → Lower w.deadline (row w k) (row w l)}
    (λ l. all_below (λ k. lower_test w.deadline (row w k) (row w l)) l) w.count)
    (all_below {P = λ i. (number w.deadline w.count i < w.count) × (row w (number w.deadline w.count i) ≡ i)}
    (λ i. both (less (number w.deadline w.count i) w.count) (equal (row w (number w.deadline w.count i)) i))
    w.count)))

-- more than a plan and two wakes cost
abbrev pub none_of : Day → ℕ
none_of day = day.slots + (day.power.wake + day.power.wake) + 1

pub ready : (day : Day) (w : Windows) → Accepted day w → Numbered w.count w.deadline (row w) → Ready day w (row w) (none_of day)
ready day w accepted numbered =
    record {
      numbered = numbered;
      window = accepted.rows.window;
      in_day = accepted.rows.in_day;
      above = λ p P. omega (arith, cost_at_most_slots day w.count p);
    }

-- p is the best plan of an accepted list
unfoldable pub best_test : (day : Day) (w : Windows) (p : Plan) → Test (Accepted day w × Best day w p)
unfolding number row latest least in_span clear may_split value_by value far_price price sides best_split split read_back
best_test day w p =
    through
    (λ t. (t.0.0, whole_best day w (row w) (none_of day) (ready day w t.0.0 t.0.1) t.1.0 p t.1.1))
    (both (both (accepted_test day w) (numbered_test w))
    (both (less (whole day w (row w) (none_of day)) (none_of day))
    (all_below (λ k. equal (p (row w k) + 1) (whole_back day w (row w) (none_of day) k)) w.count)))

-- an accepted list has no plan
unfoldable pub no_plan_test : (day : Day) (w : Windows) → Test (Accepted day w × NoPlan w)
unfolding number row latest least in_span clear may_split value_by value far_price price sides best_split split read_back
no_plan_test day w =
    through (λ t. (t.0.0, whole_none day w (row w) (none_of day) (ready day w t.0.0 t.0.1) t.1))
    (both (both (accepted_test day w) (numbered_test w)) (at_most (none_of day) (whole day w (row w) (none_of day))))

abbrev pub judge_plan : (day : Day) (w : Windows) (starts table : List ℕ) → Judge (PlanCheck day w starts table)
judge_plan day w starts table =
    judge_then (judge_list day w)
    (judge_then (judge_whole _ (is_less (length starts) w.count)) (judge_whole _ (is_less (length table) (need day.slots w.count))))

module _ {Check : Answer → Type 0} (judge : Judge Check) (need : ℕ) (day : Day) (w : Windows) (starts table : List ℕ) where
  -- a refusal, which leaves both lists as they were
  abbrev pub refused_plan : (a : Answer) (starts_after table_after : List ℕ) → Test (Planned Check need day w starts table a starts_after table_after)
  refused_plan a starts_after table_after =
      through
      (λ t. rw (t.1.0, t.1.1) (planned_refused Check need day w starts table a (stops t.0.0) t.0.1.0 t.0.1.1))
      (both (both (judge.refuses a) (both (differ a.code done) (differ a.code no_plan)))
      (both (same_numbers starts_after starts) (same_numbers table_after table)))

  -- the best plan, and a table that is set to zero
  abbrev pub best_plan : (a : Answer) (starts_after table_after : List ℕ) → Test (Planned Check need day w starts table a starts_after table_after)
  best_plan a starts_after table_after =
      through
      (λ t.
      record {
        answer = goes_on t.0.0 (costs (at starts_after) t.0.1.1 t.1.0);
        planned = λ e. best_in t.0.1.1 t.1.1.0.0 t.1.1.0.1;
        unplanned = λ n. absurd (n (ap (λ (x : Answer). x.code) t.1.0));
        cleared = λ e. t.1.1.1;
        kept = λ n m. absurd (n (ap (λ (x : Answer). x.code) t.1.0));
      })
      (both (both judge.clear (best_test day w (at starts_after)))
      (both (same_answer a (says done (cost day w.count (at starts_after)) 0))
      (both (same_from w.count starts starts_after) (same_numbers table_after (zeroed need table)))))

  -- there is no plan: the starts are as they were, and the table is set to zero
  abbrev pub no_plan_given : (a : Answer) (starts_after table_after : List ℕ) → Test (Planned Check need day w starts table a starts_after table_after)
  no_plan_given a starts_after table_after =
      through
      (λ t.
      record {
        answer = goes_on t.0.0 (none_proper t.0.1.1 t.1.0);
        planned = λ e. absurd (omega (arith, e, ap (λ (x : Answer). x.code) t.1.0));
        unplanned = λ n. t.1.1.0;
        cleared = λ e. t.1.1.1;
        kept = λ n m. absurd (m (ap (λ (x : Answer). x.code) t.1.0));
      })
      (both (both judge.clear (no_plan_test day w))
      (both (same_answer a (says no_plan 0 0)) (both (same_numbers starts_after starts) (same_numbers table_after (zeroed need table)))))

  abbrev pub planned : (a : Answer) (starts_after table_after : List ℕ) → Test (Planned Check need day w starts table a starts_after table_after)
  planned a starts_after table_after =
      any_of (refused_plan a starts_after table_after)
      (any_of (best_plan a starts_after table_after) (no_plan_given a starts_after table_after))
