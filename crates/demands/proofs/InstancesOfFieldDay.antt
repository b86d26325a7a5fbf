-- A history that meets what the theorems of a day in the field ask: a day is opened, a plan offered and taken, a job added, a plan offered and not
-- taken, a job refused since no slot is left of its window, and the day walked to its end. Assumes nothing.
use Prim.Native.Nat.{ℕ, ◌+◌}
use mathlib.Core.Path.{◌≡◌, refl, ap}
use mathlib.Core.List.{List, [], ◌∷◌, ◌++◌}
use native.Mathlib.Omega.{arith}
use lib.ListN.{length, take, replicate}
use Rattle.day.specs.declared.Day.{Day}
use Rattle.day.specs.Windows.{windows}
use Rattle.day.specs.Plan.{taken}
use Rattle.day.specs.Gap.{price, cost, total, gaps, gaps_since, ended}
use Rattle.checks.specs.declared.Answer.{Answer}
use Rattle.checks.specs.Answer.{says, done}
use Rattle.checks.specs.Refusal.{goes_on}
use Rattle.checks.specs.Zero.{zeroed}
use Rattle.checks.specs.Planned.{none_proper}
use Rattle.claim.specs.Claim.{plan_cost}
use Rattle.planner.specs.Table.{need}
use Rattle.fieldday.specs.declared.FieldDay.{FieldDay}
use Rattle.fieldday.specs.declared.FieldAnswer.{FieldAnswer}
use Rattle.cutlist.specs.Cut.{raised, cut_release, cut_deadline}
use Rattle.fieldday.specs.Held.{HeldCheck, list_held, held_cost, cut_held, held_with, cut_with, day_of, held_at}
use Rattle.fieldday.specs.Promise.{OpenPromise, AdvancePromise, AddCheck, AddPromise, OfferCheck, Weighed, offered_cost, OfferPromise}
use Rattle.fieldday.proofs.CutList.{no_slot_left}
use Rattle.demands.specs.ExamplesTable.{answer_of, day_with}
use Rattle.demands.specs.FieldDay.{HasPlaces, advances, adds, offers}
use Rattle.demands.specs.History.{calls_end, calls_then, History, last, rows_in, does, happened, AtEnd}
use Rattle.demands.proofs.Test.{Test, less, at_most, both, through, is_less, is_equal, same_numbers, same_answer}
use Rattle.demands.proofs.ExamplesChecked.{Judge, answers, judge_then, judge_whole, passed}
use Rattle.demands.proofs.ExamplesOfClaims.{judge_starts, judge_claim}
use Rattle.demands.proofs.Computed.{best_test, judge_plan, best_plan}

abbrev gives_back : ℕ → ℕ → FieldDay → FieldAnswer
gives_back code first held = record { answer = answer_of code first 0; held = held }

abbrev judge_held : (f : FieldDay) → Judge (HeldCheck f)
judge_held f =
    judge_then (judge_claim f.day (list_held f) f.starts) (judge_whole _ (is_less f.day.slots f.slot))

abbrev open_test : (day : Day) (releases deadlines starts : List ℕ) (cost : ℕ)
    → Test (OpenPromise day releases deadlines starts (gives_back 0 cost (day_of day 0 (length releases) releases deadlines starts)))
open_test day releases deadlines starts cost =
    through (λ t. record { answer = t; opened = λ e. refl; refused = λ n. absurd (n refl) })
    (answers (judge_claim day (windows releases deadlines) starts)
    (λ a. same_answer a (says done (plan_cost day (windows releases deadlines) starts) 0)) (answer_of 0 cost 0))

abbrev advanced : FieldDay → FieldAnswer
advanced f = gives_back 0 0 (held_at f (f.slot + 1) f.starts)

abbrev advance_test : (f : FieldDay) → Test (AdvancePromise f (advanced f))
advance_test f =
    through (λ t. record { answer = t; advanced = λ e. refl; refused = λ n. absurd (n refl) })
    (answers (judge_then (judge_held f) (judge_whole _ (is_equal f.slot f.day.slots))) passed (answer_of 0 0 0))

abbrev judge_offer : (f : FieldDay) (server : List ℕ) → Judge (OfferCheck f server)
judge_offer f server = judge_then (judge_held f) (judge_starts (cut_held f) server)

abbrev taken_test : (f : FieldDay) (server : List ℕ) → Test (OfferPromise f server (gives_back 0 1 (held_at f f.slot server)))
taken_test f server =
    through
    (λ t.
    record {
      answer = goes_on t.0 (Weighed.cheaper t.1 refl);
      taken = λ e. refl;
      left = λ e. absurd (omega (arith, ap (λ (a : Answer). a.first) e));
      refused = λ n. absurd (n refl);
    })
    (both (judge_offer f server).clear (less (offered_cost f server) (held_cost f)))

abbrev left_test : (f : FieldDay) (server : List ℕ) → Test (OfferPromise f server (gives_back 0 0 (held_at f f.slot f.starts)))
left_test f server =
    through
    (λ t.
    record {
      answer = goes_on t.0 (Weighed.no_cheaper t.1 refl);
      taken = λ e. absurd (omega (arith, ap (λ (a : Answer). a.first) e));
      left = λ e. refl;
      refused = λ n. absurd (n refl);
    })
    (both (judge_offer f server).clear (at_most (held_cost f) (offered_cost f server)))

-- the table lent has just the places needed
abbrev lent_for : FieldDay → ℕ → List ℕ
lent_for f = replicate (need f.day.slots (f.count + 1))

abbrev judge_add : (f : FieldDay) (release deadline : ℕ) → Judge (AddCheck f release deadline (lent_for f 9))
judge_add f release deadline =
    judge_then (judge_held f) (judge_plan f.day (held_with f release deadline) f.starts (lent_for f 9))

abbrev added : FieldDay → ℕ → ℕ → ℕ → List ℕ → FieldAnswer
added f release deadline cost starts =
    gives_back 0 cost
    (day_of f.day f.slot (f.count + 1) (take f.count f.releases ++ release ∷ []) (take f.count f.deadlines ++ deadline ∷ []) starts)

abbrev add_test : (f : FieldDay) (release deadline cost : ℕ) (starts : List ℕ)
    → Test (AddPromise f release deadline (lent_for f 9) (added f release deadline cost starts) (lent_for f 0))
add_test f release deadline cost starts =
    through (λ t. record { starts_after = starts; planned = t; added = λ e. refl; refused = λ n. absurd (n refl) })
    (best_plan (judge_add f release deadline) (need f.day.slots (f.count + 1)) f.day (cut_with f release deadline) f.starts
    (lent_for f 9) (answer_of 0 cost 0) starts (lent_for f 0))

-- no slot is left of a new row
abbrev no_slot_test : (f : FieldDay) (release deadline : ℕ)
    → Test (AddPromise f release deadline (lent_for f 9) (gives_back 7 0 f) (lent_for f 0))
no_slot_test f release deadline =
    through
    (λ t.
    record {
      starts_after = f.starts;
      planned =
          record {
            answer = goes_on t.0 (none_proper (no_slot_left f release deadline t.1.0) refl);
            planned = λ e. absurd (omega arith);
            unplanned = λ n. refl;
            cleared = λ e. t.1.1;
            kept = λ n m. absurd (m refl);
          };
      added = λ e. absurd (omega arith);
      refused = λ n. refl;
    })
    (both (judge_add f release deadline).clear
    (both (at_most deadline f.slot) (same_numbers (lent_for f 0) (zeroed (need f.day.slots (f.count + 1)) (lent_for f 9)))))

-- The day: T = 4, L = 3, the rows (0, 1) and (1, 4). The plan that it opens with costs 2.

abbrev day : Day
day = day_with 4 3

abbrev opening : FieldAnswer
opening = gives_back 0 2 (day_of day 0 2 (0 ∷ 1 ∷ []) (1 ∷ 4 ∷ []) (0 ∷ 3 ∷ []))

pub opens : OpenPromise day (0 ∷ 1 ∷ []) (1 ∷ 4 ∷ []) (0 ∷ 3 ∷ []) opening
unfolding cost price total gaps gaps_since ended taken
opens = (open_test day (0 ∷ 1 ∷ []) (1 ∷ 4 ∷ []) (0 ∷ 3 ∷ []) 2).shows refl

pub has_places : HasPlaces opening.held
has_places = record { releases = refl; deadlines = refl; starts = refl }

-- a plan of cost 0 is offered and taken
abbrev cheaper : FieldAnswer
cheaper = gives_back 0 1 (held_at opening.held 0 (0 ∷ 1 ∷ []))

pub takes : OfferPromise opening.held (0 ∷ 1 ∷ []) cheaper
unfolding raised cut_release cut_deadline cost price total gaps gaps_since ended taken
takes = (taken_test opening.held (0 ∷ 1 ∷ [])).shows refl

-- the first slot passes, and with it row 1
abbrev at_1 : FieldAnswer
at_1 = advanced cheaper.held

pub goes_to_1 : AdvancePromise cheaper.held at_1
goes_to_1 = (advance_test cheaper.held).shows refl

-- a row (2, 4) is added
abbrev more : FieldAnswer
more = added at_1.held 2 4 0 (0 ∷ 1 ∷ 2 ∷ replicate 37 0)

pub adds_row : AddPromise at_1.held 2 4 (lent_for at_1.held 9) more (lent_for at_1.held 0)
unfolding need zeroed best_test raised cut_release cut_deadline cost price total gaps gaps_since ended taken
adds_row = (add_test at_1.held 2 4 0 (0 ∷ 1 ∷ 2 ∷ replicate 37 0)).shows refl

-- a plan of cost 1 is offered and left
abbrev dearer : FieldAnswer
dearer = gives_back 0 0 (held_at more.held 1 more.held.starts)

pub leaves : OfferPromise more.held (0 ∷ 2 ∷ 3 ∷ []) dearer
unfolding raised cut_release cut_deadline cost price total gaps gaps_since ended taken
leaves = (left_test more.held (0 ∷ 2 ∷ 3 ∷ [])).shows refl

abbrev at_2 : FieldAnswer
at_2 = advanced dearer.held

pub goes_to_2 : AdvancePromise dearer.held at_2
goes_to_2 = (advance_test dearer.held).shows refl

-- of a row (0, 2) no slot is left
abbrev too_late : FieldAnswer
too_late = gives_back 7 0 at_2.held

pub refuses_row : AddPromise at_2.held 0 2 (lent_for at_2.held 9) too_late (lent_for at_2.held 0)
unfolding need zeroed
refuses_row = (no_slot_test at_2.held 0 2).shows refl

abbrev at_3 : FieldAnswer
at_3 = advanced too_late.held

pub goes_to_3 : AdvancePromise too_late.held at_3
goes_to_3 = (advance_test too_late.held).shows refl

abbrev at_4 : FieldAnswer
at_4 = advanced at_3.held

pub goes_to_4 : AdvancePromise at_3.held at_4
goes_to_4 = (advance_test at_3.held).shows refl

pub walked : History
walked =
    record {
      day = day;
      releases = 0 ∷ 1 ∷ [];
      deadlines = 1 ∷ 4 ∷ [];
      starts = 0 ∷ 3 ∷ [];
      opening = opening;
      opened = opens;
      calls =
          calls_then (offers (0 ∷ 1 ∷ []) cheaper takes)
          (calls_then (advances at_1 goes_to_1)
          (calls_then (adds 2 4 (lent_for at_1.held 9) more (lent_for at_1.held 0) adds_row)
          (calls_then (offers (0 ∷ 2 ∷ 3 ∷ []) dearer leaves)
          (calls_then (advances at_2 goes_to_2)
          (calls_then (adds 0 2 (lent_for at_2.held 9) too_late (lent_for at_2.held 0) refuses_row)
          (calls_then (advances at_3 goes_to_3) (calls_then (advances at_4 goes_to_4) calls_end)))))));
    }

pub at_end : AtEnd (last walked.calls)
unfolding walked last
at_end = refl

-- each of its rows is done, in the order of their slots
pub all_done : happened walked.calls ≡ 0 ∷ 1 ∷ 2 ∷ []
unfolding walked happened does rows_in
all_done = refl
