-- The examples of pricing and of the choice hold: each row's outcome is tested. Assumes nothing.
use Prim.Native.Nat.{ℕ, ◌+◌, ◌<◌}
use mathlib.Core.Path.{refl}
use mathlib.Core.List.{List}
use mathlib.Core.Logic.{⊎_elim}
use native.Mathlib.Omega.{arith}
use lib.ListN.{length}
use Rattle.checks.specs.declared.Answer.{Answer}
use Rattle.day.specs.declared.Day.{Day}
use Rattle.day.specs.Windows.{Windows, at}
use Rattle.day.specs.Plan.{MayStart, taken}
use Rattle.day.specs.Gap.{price, ended, gaps_since, gaps, total, cost}
use Rattle.checks.specs.Answer.{says, done}
use Rattle.checks.specs.Check.{ListCheck}
use Rattle.claim.specs.Claim.{Fit, OutsideWindow, Together, StartsCheck, ClaimCheck, plan_cost}
use Rattle.choice.specs.Choice.{own_plan, server_plan, own_wins, server_wins, NamesWinner, NeitherCheck}
use Rattle.claim.proofs.Claim.{clear_fit}
use Rattle.demands.specs.ExamplesOfClaims.{
  Claim,
  CostsAs,
  a_row_a_slot,
  a_start_a_slot,
  priced_examples,
  PricedExamplesHold,
  TwoPlans,
  ChosenAs,
  chosen_examples,
  ChosenExamplesHold,
}
use Rattle.demands.proofs.Test.{
  Test,
  less,
  at_most,
  both,
  either,
  through,
  BothWays,
  is_less,
  is_at_most,
  is_equal,
  is_not,
  is_both,
  some_below,
  same_answer,
  all_in,
}
use Rattle.demands.proofs.ExamplesChecked.{shown_test, Judge, answers, judge_then, judge_whole, judge_row, judge_pair, judge_list}
use Rattle.demands.proofs.OneOutcome.{one_outcome}

abbrev may_start : (w : Windows) (i t : ℕ) → BothWays (MayStart w i t)
may_start w i t = is_both (is_at_most (w.release i) t) (is_at_most (t + 1) (w.deadline i))

abbrev outside : (w : Windows) (starts : List ℕ) (i : ℕ) → BothWays (OutsideWindow w starts i)
outside w starts i = is_not (may_start w i (at starts i))

abbrev together : (starts : List ℕ) (i j : ℕ) → BothWays (Together starts i j)
together starts i j = is_equal (at starts i) (at starts j)

abbrev pub judge_starts : (w : Windows) (starts : List ℕ) → Judge (StartsCheck w starts)
judge_starts w starts =
    judge_then (judge_whole _ (is_less (length starts) w.count))
    (judge_then (judge_row _ w.count (outside w starts)) (judge_pair _ w.count (together starts)))

abbrev pub judge_claim : (day : Day) (w : Windows) (starts : List ℕ) → Judge (ClaimCheck (ListCheck day w) w starts)
judge_claim day w starts = judge_then (judge_list day w) (judge_starts w starts)

abbrev price_test : (claim : Claim) (a : Answer) → Test (CostsAs claim a)
price_test claim =
    answers (judge_claim claim.day claim.rows claim.starts)
    (λ a. same_answer a (says done (plan_cost claim.day claim.rows claim.starts) 0))

pub priced_examples_hold : PricedExamplesHold
unfolding priced_examples a_row_a_slot a_start_a_slot cost price total gaps gaps_since ended taken
priced_examples_hold =
    (all_in (shown_test (λ claim. one_outcome.price claim.day claim.rows claim.starts) price_test) priced_examples).shows refl

-- what makes a plan unfit
abbrev unfit : (w : Windows) (starts : List ℕ) → Test (Fit w starts → ⊥)
unfit w starts =
    through
    (⊎_elim (λ l fit. omega (arith, fit.long))
    (⊎_elim (λ f fit. f.2 (fit.proper.inside f.0 f.1))
    (λ f fit.
    omega (
      arith,
      f.2.2.0,
      fit.proper.apart f.2.0 f.0 (omega (arith, f.1, f.2.2.0)) f.1 f.2.2.1,
    ))))
    (either (less (length starts) w.count)
    (either (some_below (λ i. (outside w starts i).yes) w.count)
    (some_below {P = λ j. (i : ℕ) × (i < w.count) × ((i < j) × Together starts i j)}
    (λ j. some_below (λ i. both (less i j) (together starts i j).yes) w.count) w.count)))

abbrev pub is_fit : (w : Windows) (starts : List ℕ) → BothWays (Fit w starts)
is_fit w starts = record { yes = through (clear_fit w starts) (judge_starts w starts).clear; no = unfit w starts }

-- where a plan is fit, another is, or it is not and nothing is asked of it
abbrev if_fit : {P : Type 0} (w : Windows) (starts : List ℕ) → Test P → Test (Fit w starts → P)
if_fit w starts t = through (⊎_elim (λ n fit. absurd (n fit)) (λ p fit. p)) (either (unfit w starts) t)

abbrev names_winner : (day : Day) (w : Windows) (own server : List ℕ) (a : Answer) → Test (NamesWinner day w own server a)
names_winner day w own server a =
    through
    (⊎_elim (λ f. record { winner = own_plan; wins = own_wins f.0.0 f.0.1; says = f.1 })
    (λ f. record { winner = server_plan; wins = server_wins f.0.0 f.0.1; says = f.1 }))
    (either
    (both
    (both (is_fit w own).yes (if_fit w server (at_most (plan_cost day w own) (plan_cost day w server))))
    (same_answer a (says done own_plan 0)))
    (both
    (both (is_fit w server).yes (if_fit w own (less (plan_cost day w server) (plan_cost day w own))))
    (same_answer a (says done server_plan 0))))

abbrev judge_neither : (w : Windows) (own server : List ℕ) → Judge (NeitherCheck w own server)
judge_neither w own server = judge_whole _ (is_both (is_not (is_fit w own)) (is_not (is_fit w server)))

abbrev choice_test : (two : TwoPlans) (a : Answer) → Test (ChosenAs two a)
choice_test two =
    answers (judge_list two.day two.rows)
    (answers (judge_neither two.rows two.own two.server) (names_winner two.day two.rows two.own two.server))

pub chosen_examples_hold : ChosenExamplesHold
unfolding chosen_examples cost price total gaps gaps_since ended taken
chosen_examples_hold =
    (all_in (shown_test (λ two. one_outcome.which two.day two.rows two.own two.server) choice_test) chosen_examples).shows
    refl
