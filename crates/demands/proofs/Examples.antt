-- The examples of planning hold: one computed test over each table, and a law that turns it into what each row says. Assumes nothing.
use Prim.Native.Nat.{ℕ, suc, ◌≤◌, ◌<◌}
use mathlib.Core.Path.{◌≡◌, refl, sym, ◌∙◌, ap, subst}
use mathlib.Core.List.{List, [], ◌∷◌, ◌++◌}
use mathlib.Core.Logic.{◌⊎◌, inl, inr, ⊎_elim}
use native.Mathlib.Omega.{arith}
use lib.ListN.{length, drop, length-map}
use lib.Seq.{ext_get_or}
use Rattle.checks.specs.declared.Answer.{Answer}
use Rattle.day.specs.declared.Day.{Day}
use Rattle.day.specs.Windows.{Windows, at}
use Rattle.day.specs.Plan.{Plan, NoPlan, taken}
use Rattle.day.specs.Gap.{price, ended, gaps_since, gaps, total, cost}
use Rattle.day.specs.Best.{Best}
use Rattle.checks.specs.Answer.{says, done, short_table, no_plan}
use Rattle.checks.specs.Check.{Accepted}
use Rattle.day.proofs.Cases.{give}
use Rattle.day.proofs.Changed.{filled_rest}
use Rattle.day.proofs.Gap.{cost_agree}
use Rattle.day.proofs.Bound.{cost_at_most_wakes}
use Rattle.planner.specs.Table.{need}
use Rattle.demands.specs.Run.{Run, list, Promised, Served}
use Rattle.demands.specs.BestPlan.{BestGiven}
use Rattle.demands.specs.ExamplesTable.{day_with, list_with}
use Rattle.demands.specs.Examples.{Amount, exactly, up_to, at_least, Is, Example, Plans, Shows, ExampleHolds, examples, ExamplesHold, PlanInput, PlansTo, refused_plans, RefusedPlansHold}
use Rattle.demands.proofs.Test.{Test, less, at_most, equal, fails, both, either, through, all_in}
use Rattle.demands.proofs.ExamplesChecked.{shown_test}
use Rattle.demands.proofs.Computed.{accepted_test, best_test, no_plan_test, judge_plan, refused_plan}
use Rattle.demands.proofs.BestPlan.{best_or_none, short_given}
use Rattle.demands.proofs.OneOutcome.{one_outcome}

-- what is known of an example, with a day and its list

record HasBest (e : Example) (day : Day) (w : Windows) : Type 0 where
  code : e.code ≡ done
  accepted : Accepted day w
  best : Best day w (at e.starts)
  long : length e.starts ≡ w.count
  first : cost day w.count (at e.starts) ≡ e.first
  table : (x : ℕ) → Is e.places x → need day.slots w.count ≤ x

record HasNone (e : Example) (day : Day) (w : Windows) : Type 0 where
  code : e.code ≡ no_plan
  accepted : Accepted day w
  none : NoPlan w
  starts : length e.starts ≡ 0
  first : e.first ≡ 0
  table : (x : ℕ) → Is e.places x → need day.slots w.count ≤ x

record HasShort (e : Example) (day : Day) (w : Windows) : Type 0 where
  code : e.code ≡ short_table
  accepted : Accepted day w
  starts : length e.starts ≡ 0
  first : e.first ≡ 0
  table : (x : ℕ) → Is e.places x → x < need day.slots w.count

abbrev Known : Example → Day → Windows → Type 0
Known e day w = HasBest e day w ⊎ (HasNone e day w ⊎ HasShort e day w)

abbrev day_at : Example → ℕ → Day
day_at e wake = day_with e.slots wake

abbrev list_of : Example → Windows
list_of e = list_with e.jobs

-- all that an amount allows is enough
abbrev enough : (least : ℕ) (m : Amount) → Test ((x : ℕ) → Is m x → least ≤ x)
enough least (exactly n) = through (λ l x q. rw q l) (at_most least n)
enough least (up_to n) = fails
enough least (at_least n) = through (λ l x q. omega (arith, q)) (at_most least n)

-- all that an amount allows is too little
abbrev too_few : (least : ℕ) (m : Amount) → Test ((x : ℕ) → Is m x → x < least)
too_few least (exactly n) = through (λ l x q. rw q l) (less n least)
too_few least (up_to n) = through (λ l x q. omega (arith, q)) (less n least)
too_few least (at_least n) = fails

-- with one wake

best_known : (e : Example) (day : Day) (w : Windows) → Test (HasBest e day w)
best_known e day w =
    through
    (λ t.
    record { code = t.0.0; table = t.0.1; accepted = t.1.0.0; best = t.1.0.1; long = t.1.1.0; first = t.1.1.1 })
    (both (both (equal e.code done) (enough (need day.slots w.count) e.places))
    (both (best_test day w (at e.starts))
    (both (equal (length e.starts) w.count) (equal (cost day w.count (at e.starts)) e.first))))

none_known : (e : Example) (day : Day) (w : Windows) → Test (HasNone e day w)
none_known e day w =
    through
    (λ t.
    record { code = t.0.0; table = t.0.1; accepted = t.1.0.0; none = t.1.0.1; starts = t.1.1.0; first = t.1.1.1 })
    (both (both (equal e.code no_plan) (enough (need day.slots w.count) e.places))
    (both (no_plan_test day w) (both (equal (length e.starts) 0) (equal e.first 0))))

short_known : (e : Example) (day : Day) (w : Windows) → Test (HasShort e day w)
short_known e day w =
    through (λ t. record { code = t.0.0; table = t.0.1; accepted = t.1.0; starts = t.1.1.0; first = t.1.1.1 })
    (both (both (equal e.code short_table) (too_few (need day.slots w.count) e.places))
    (both (accepted_test day w) (both (equal (length e.starts) 0) (equal e.first 0))))

-- a row alone costs nothing
lone_free : (day : Day) (w : Windows) (p : Plan) → w.count ≡ 1 → cost day w.count p ≡ 0
lone_free day w p one = rw one (omega (arith, cost_at_most_wakes day 1 p))

-- so no wake changes its best plan
lone_best : (day other : Day) (w : Windows) (p : Plan) → w.count ≡ 1 → Best day w p → Best other w p
lone_best day other w p one best =
    record {
      proper = best.proper;
      cheapest = λ q Q. omega (arith, lone_free other w p one);
      latest = λ q Q e. best.latest q Q (lone_free day w q one ∙ sym (lone_free day w p one));
    }

-- what is known with the largest wake is known with a smaller one

accepted_below : (slots wake most : ℕ) (w : Windows) → wake ≤ most
    → Accepted (record { slots = slots; power = record { wake = most } }) w
    → Accepted (record { slots = slots; power = record { wake = wake } }) w
accepted_below slots wake most w l old =
    record { some_slots = old.some_slots; slots = old.slots; wake = omega (arith, old.wake); rows = old.rows }

lone_below : (e : Example) (wake most : ℕ) → wake ≤ most → (list_of e).count ≡ 1 → HasBest e (day_at e most) (list_of e)
    → HasBest e (day_at e wake) (list_of e)
lone_below e wake most l one known =
    record {
      code = known.code;
      accepted = accepted_below e.slots wake most (list_of e) l known.accepted;
      best = lone_best (day_at e most) (day_at e wake) (list_of e) (at e.starts) one known.best;
      long = known.long;
      first =
          lone_free (day_at e wake) (list_of e) (at e.starts) one
          ∙ sym (lone_free (day_at e most) (list_of e) (at e.starts) one)
          ∙ known.first;
      table = known.table;
    }

none_below : (e : Example) (wake most : ℕ) → wake ≤ most → HasNone e (day_at e most) (list_of e)
    → HasNone e (day_at e wake) (list_of e)
none_below e wake most l known =
    record {
      code = known.code;
      accepted = accepted_below e.slots wake most (list_of e) l known.accepted;
      none = known.none;
      starts = known.starts;
      first = known.first;
      table = known.table;
    }

-- the one wake that is named, or the largest for all up to it: no smaller one changes a row alone, or that there is no plan
known_test : (e : Example) (m : Amount) → Test ((wake : ℕ) → Is m wake → Known e (day_at e wake) (list_of e))
known_test e (exactly n) =
    through (λ known wake q. rw q known)
    (either (best_known e (day_at e n) (list_of e))
    (either (none_known e (day_at e n) (list_of e)) (short_known e (day_at e n) (list_of e))))
known_test e (up_to n) =
    through
    (⊎_elim (λ known wake l. inl (lone_below e wake n l known.0 known.1)) (λ known wake l. inr (inl (none_below e wake n l known))))
    (either (both (equal (list_of e).count 1) (best_known e (day_at e n) (list_of e))) (none_known e (day_at e n) (list_of e)))
known_test e (at_least n) = fails

-- a list whose first places are set to xs
front_replaced : (xs old new : List ℕ) → length new ≡ length old → length xs ≤ length old
    → ((i : ℕ) → i < length xs → at new i ≡ at xs i)
    → ((i : ℕ) → length xs ≤ i → at new i ≡ at old i)
    → new ≡ xs ++ drop (length xs) old
front_replaced [] old new same room front rest = ext_get_or 0 new old same (λ i l. rest i (omega arith))
front_replaced (x ∷ xs) [] new same room front rest = absurd (omega arith)
front_replaced (x ∷ xs) (o ∷ old) [] same room front rest = absurd (omega arith)
front_replaced (x ∷ xs) (o ∷ old) (n ∷ new) same room front rest =
    let head : n ≡ x = front 0 (omega arith) in
    let tail : new ≡ xs ++ drop (length xs) old =
    front_replaced xs old new (omega arith) (omega arith) (λ i l. front (suc i) (omega arith)) (λ i l. rest (suc i) (omega arith))
    in
    cc

-- nothing is set
none_replaced : (xs old : List ℕ) → length xs ≡ 0 → old ≡ xs ++ drop (length xs) old
none_replaced [] old e = refl
none_replaced (x ∷ xs) old e = absurd (omega arith)

module _ (e : Example) (run : Run) (plans : Plans e run) (promised : Promised run) where
  room : (list run).count ≤ length run.starts
  room = omega (arith, ap length plans.releases, length-map e.jobs (λ j. j.0), plans.room)

  served : Accepted run.day (list run) → need run.day.slots (list run).count ≤ length run.table → Served run
  served accepted table =
      record { promised = promised; admitted = record { accepted = accepted; room = room; table = table } }

  best_shown : HasBest e run.day (list run) → BestGiven run → Shows e run
  best_shown known given =
      give (given.only (at e.starts) known.best)
      (λ same.
      record {
        answer =
            given.answer
            ∙ ap (λ c. says done c 0)
            (cost_agree run.day (list run).count (at run.starts_after) (at e.starts) same ∙ known.first)
            ∙ ap (λ c. says c e.first 0) (sym known.code);
        starts =
            front_replaced e.starts run.starts run.starts_after given.others.long (omega (arith, known.long, room))
            (λ i l. same i (omega (arith, known.long)))
            (λ i l. filled_rest given.others i (omega (arith, known.long)));
      })

  refused_shown : run.answer ≡ says e.code 0 0 → e.first ≡ 0 → length e.starts ≡ 0 → run.starts_after ≡ run.starts
      → Shows e run
  refused_shown answer first none kept =
      record {
        answer = answer ∙ ap (λ x. says e.code x 0) (sym first);
        starts = kept ∙ none_replaced e.starts run.starts none;
      }

  shown : Known e run.day (list run) → Shows e run
  shown (inl known) =
      ⊎_elim (best_shown known) (λ given. absurd (given.none (at e.starts) known.best.proper))
      (best_or_none run (served known.accepted (known.table (length run.table) plans.places)))
  shown (inr (inl known)) =
      ⊎_elim (λ given. absurd (known.none (at run.starts_after) given.best.proper))
      (λ given.
      refused_shown (given.answer ∙ ap (λ c. says c 0 0) (sym known.code)) known.first known.starts given.starts)
      (best_or_none run (served known.accepted (known.table (length run.table) plans.places)))
  shown (inr (inr known)) =
      give (short_given run promised known.accepted room (known.table (length run.table) plans.places))
      (λ answer.
      refused_shown (answer ∙ ap (λ c. says c 0 0) (sym known.code)) known.first known.starts
      (promised.unplanned (λ code. omega (arith, ap (λ (a : Answer). a.code) answer))))

same_day : (e : Example) (run : Run) → Plans e run → day_at e run.day.power.wake ≡ run.day
same_day e run plans = ap (λ (slots : ℕ). record { slots = slots; power = run.day.power }) (sym plans.slots)

same_list : (e : Example) (run : Run) → Plans e run → list_of e ≡ list run
same_list e run plans = rw (plans.releases, plans.deadlines)

example_test : (e : Example) → Test (ExampleHolds e)
example_test e =
    through
    (λ known run plans promised.
    shown e run plans promised
    (subst (λ (d : Day). Known e d (list run)) (same_day e run plans)
    (subst (Known e (day_at e run.day.power.wake)) (same_list e run plans)
    (known run.day.power.wake plans.wake))))
    (known_test e e.wake)

pub examples_hold : ExamplesHold
unfolding examples example_test known_test best_known none_known short_known best_test no_plan_test need cost price total gaps gaps_since ended taken
examples_hold = (all_in example_test examples).shows refl

abbrev refused_test : (lent : PlanInput) (after : Answer × List ℕ × List ℕ) → Test (PlansTo lent after)
refused_test lent after =
    refused_plan (judge_plan lent.day lent.rows lent.starts lent.table) (need lent.day.slots lent.rows.count) lent.day
    lent.rows lent.starts lent.table after.0 after.1 after.2

pub refused_plans_hold : RefusedPlansHold
unfolding refused_plans need
refused_plans_hold =
    (all_in (shown_test (λ lent. one_outcome.plan lent.day lent.rows lent.starts lent.table) refused_test) refused_plans).shows
    refl
