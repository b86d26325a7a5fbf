-- Checks in order, tested: that one refuses with a given answer, and that one has nothing to refuse. From these tests of the single checks the
-- tests of every promise are put together. Assumes nothing.
use Prim.Native.Nat.{ℕ, ◌+◌, ◌-◌, ◌≤◌, ◌<◌}
use mathlib.Core.Logic.{◌⊎◌, ⊎_elim}
use native.Mathlib.Omega.{arith}
use Rattle.checks.specs.declared.Answer.{Answer}
use Rattle.day.specs.declared.Day.{Day}
use Rattle.day.specs.Windows.{Windows}
use Rattle.checks.specs.Answer.{says, done}
use Rattle.checks.specs.Refusal.{◌then◌, stops, goes_on, Passed, Refuses, First, RefusesRow, FirstPair, RefusesPair}
use Rattle.checks.specs.Check.{most_slots, most_wake, most_jobs, SlotsCheck, JobsCheck, TimesCheck, ListCheck}
use Rattle.checks.proofs.Refusal.{then_clear}
use Rattle.demands.specs.ExamplesTable.{Shown}
use Rattle.demands.specs.OneOutcome.{AtMostOne}
use Rattle.demands.proofs.Test.{
  Test,
  less,
  at_most,
  both,
  either,
  through,
  BothWays,
  is_less,
  is_at_most,
  is_equal,
  is_either,
  all_below,
  same_answer,
}

-- an outcome that is tested is the only one, where the promise has at most one
abbrev pub shown_test : {Input Outcome : Type 0} {Promise : Input → Outcome → Type 0} → ((i : Input) → AtMostOne (Promise i))
    → ((i : Input) (o : Outcome) → Test (Promise i o)) → (row : Input × Outcome) → Test (Shown Promise row)
shown_test unique keeps row =
    through (λ p. record { keeps = p; only = λ other q. unique row.0 other row.1 q p }) (keeps row.0 row.1)

pub record Judge (Check : Answer → Type 0) : Type 0 where
  pub refuses : (a : Answer) → Test (Check a)
  pub clear : Test ((b : Answer) → Check b → ⊥)

-- a check, and what comes next where it has nothing to refuse
abbrev pub answers : {Check Next : Answer → Type 0} → Judge Check → ((a : Answer) → Test (Next a)) → (a : Answer) → Test ((Check then Next) a)
answers judge next a =
    through (⊎_elim stops (λ g. goes_on g.0 g.1)) (either (judge.refuses a) (both judge.clear (next a)))

abbrev pub judge_then : {Check Next : Answer → Type 0} → Judge Check → Judge Next → Judge (Check then Next)
judge_then first next =
    record {
      refuses = answers first next.refuses;
      clear = through (λ c. then_clear c.0 c.1) (both first.clear next.clear);
    }

abbrev pub judge_whole : (code : ℕ) {Fault : Type 0} → BothWays Fault → Judge (Refuses code Fault)
judge_whole code fault =
    record {
      refuses = λ a. through (λ f. record { fault = f.0; says = f.1 }) (both fault.yes (same_answer a (says code 0 0)));
      clear = through (λ n b r. n r.fault) fault.no;
    }

abbrev first_test : {Fault : ℕ → Type 0} → ((i : ℕ) → BothWays (Fault i)) → (n i : ℕ) → Test (First n Fault i)
first_test fault n i =
    through (λ f. record { within = f.0; fault = f.1.0; lowest = f.1.1 })
    (both (less i n) (both (fault i).yes (all_below (λ j. (fault j).no) i)))

-- the answer names the row, counted from 1
abbrev pub judge_row : (code n : ℕ) {Fault : ℕ → Type 0} → ((i : ℕ) → BothWays (Fault i)) → Judge (RefusesRow code n Fault)
judge_row code n fault =
    record {
      refuses = λ a.
          through (λ f. record { row = a.first - 1; first = f.0; says = f.1 })
          (both (first_test fault n (a.first - 1)) (same_answer a (says code (a.first - 1 + 1) 0)));
      clear =
          through (λ none b r. none r.row r.first.within r.first.fault) (all_below (λ i. (fault i).no) n);
    }

-- no pair whose first row is below m and whose second is below n
abbrev no_pair : {Fault : ℕ → ℕ → Type 0} → ((i j : ℕ) → BothWays (Fault i j)) → (m n : ℕ)
    → Test ((k : ℕ) → k < m → (l : ℕ) → l < n → (l ≤ k) ⊎ (Fault k l → ⊥))
no_pair {Fault} fault m n =
    all_below {P = λ k. (l : ℕ) → l < n → (l ≤ k) ⊎ (Fault k l → ⊥)}
    (λ k. all_below {P = λ l. (l ≤ k) ⊎ (Fault k l → ⊥)} (λ l. either (at_most l k) (fault k l).no) n)
    m

abbrev first_pair_test : {Fault : ℕ → ℕ → Type 0} → ((i j : ℕ) → BothWays (Fault i j)) → (n i j : ℕ) → Test (FirstPair n Fault i j)
first_pair_test {Fault} fault n i j =
    through
    (λ f.
    record {
      order = f.0.0;
      within = f.0.1;
      fault = f.1.0;
      lowest = λ k l b o w. ⊎_elim (λ h. absurd (omega arith)) (λ h. h) (f.1.1.0 k b l w);
      partner = λ l o b. ⊎_elim (λ h. absurd (omega arith)) (λ h. h) (f.1.1.1 l b);
    })
    (both (both (less i j) (less j n))
    (both (fault i j).yes
    (both (no_pair fault i n)
    (all_below {P = λ l. (l ≤ i) ⊎ (Fault i l → ⊥)} (λ l. either (at_most l i) (fault i l).no) j))))

-- the answer names both rows
abbrev pub judge_pair : (code n : ℕ) {Fault : ℕ → ℕ → Type 0} → ((i j : ℕ) → BothWays (Fault i j)) → Judge (RefusesPair code n Fault)
judge_pair code n fault =
    record {
      refuses = λ a.
          through (λ f. record { row = a.first - 1; partner = a.second - 1; first = f.0; says = f.1 })
          (both (first_pair_test fault n (a.first - 1) (a.second - 1))
          (same_answer a (says code (a.first - 1 + 1) (a.second - 1 + 1))));
      clear =
          through
          (λ none b r.
          ⊎_elim (λ h. omega (arith, r.first.order)) (λ h. h r.first.fault)
          (none r.row (omega (arith, r.first.order, r.first.within)) r.partner r.first.within))
          (no_pair fault n n);
    }

-- nothing is left to refuse
abbrev pub passed : (a : Answer) → Test (Passed a)
passed a = same_answer a (says done 0 0)

-- the checks that entry points share

abbrev pub judge_slots : (limit slots : ℕ) → Judge (SlotsCheck limit slots)
judge_slots limit slots = judge_whole _ (is_either (is_equal slots 0) (is_less limit slots))

abbrev pub judge_jobs : (limit slots : ℕ) (w : Windows) → Judge (JobsCheck limit slots w)
judge_jobs limit slots w =
    judge_then (judge_whole _ (is_less limit w.count))
    (judge_row _ w.count (λ i. is_either (is_at_most (w.deadline i) (w.release i)) (is_less slots (w.deadline i))))

abbrev pub judge_times : (slots : ℕ) (w : Windows) → Judge (TimesCheck slots w)
judge_times slots w = judge_then (judge_slots most_slots slots) (judge_jobs most_jobs slots w)

abbrev pub judge_list : (day : Day) (w : Windows) → Judge (ListCheck day w)
judge_list day w =
    judge_then (judge_slots most_slots day.slots)
    (judge_then (judge_whole _ (is_less most_wake day.power.wake)) (judge_jobs _ day.slots w))
