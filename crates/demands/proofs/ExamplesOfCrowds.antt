-- The examples of a crowded span hold: each row's outcome is tested, of a list with a plan by a plan. Assumes nothing.
use Prim.Native.Nat.{ℕ, zero, suc, ◌-◌, ◌≤◌, ◌<◌}
use mathlib.Core.Path.{◌≡◌, refl}
use mathlib.Core.List.{List, [], ◌∷◌}
use mathlib.Core.Logic.{◌⊎◌, ⊎_elim}
use native.Mathlib.Omega.{arith}
use Rattle.day.specs.Windows.{Windows, at}
use Rattle.day.specs.Count.{Count, counted_none, counted, passed_over}
use Rattle.day.proofs.Count.{count_unique}
use Rattle.checks.specs.Answer.{says, done, plan_exists}
use Rattle.checks.specs.Refusal.{stops}
use Rattle.crowd.specs.declared.CrowdedSpan.{CrowdedSpan}
use Rattle.crowd.specs.declared.CrowdAnswer.{CrowdAnswer}
use Rattle.crowd.specs.Crowded.{Inside, slots_of, Crowded, SpanShown}
use Rattle.crowd.specs.Promise.{no_span, CrowdPromise}
use Rattle.crowd.proofs.Answered.{answer_plan_exists, answer_shown}
use Rattle.demands.specs.ExamplesTable.{list_with}
use Rattle.demands.specs.ExamplesOfCrowds.{crowd_examples, CrowdExamplesHold}
use Rattle.demands.proofs.Test.{
  Test,
  less,
  at_most,
  equal,
  holds,
  fails,
  both,
  either,
  through,
  any_of,
  differ,
  BothWays,
  is_at_most,
  is_both,
  all_below,
  some_below,
  same_answer,
  all_with,
}
use Rattle.demands.proofs.ExamplesChecked.{shown_test, judge_times}
use Rattle.demands.proofs.ExamplesOfClaims.{is_fit}
use Rattle.demands.proofs.OneOutcome.{one_outcome}

abbrev count_test : {P : ℕ → Type 0} → ((i : ℕ) → BothWays (P i)) → (n c : ℕ) → Test (Count P n c)
count_test known zero zero = holds counted_none
count_test known zero (suc c) = fails
count_test known (suc n) zero = through (λ t. passed_over t.1 t.0) (both (known n).no (count_test known n zero))
count_test known (suc n) (suc c) =
    any_of (through (λ t. counted t.1 t.0) (both (known n).yes (count_test known n c)))
    (through (λ t. passed_over t.1 t.0) (both (known n).no (count_test known n (suc c))))

module _ (slots : ℕ) (w : Windows) where
  abbrev inside : (a b i : ℕ) → BothWays (Inside w a b i)
  inside a b i = is_both (is_at_most a (w.release i)) (is_at_most (w.deadline i) b)

  abbrev crowded_test : (span : CrowdedSpan) → Test (Crowded slots w span)
  crowded_test span =
      through (λ t. record { some = t.0.0; in_day = t.0.1; counted = t.1.0; crowded = t.1.1 })
      (both (both (less span.begin span.end) (at_most span.end slots))
      (both (count_test (inside span.begin span.end) w.count span.jobs) (less (slots_of span) span.jobs)))

  -- a and b are no better than a span: they are of no span, or of one that is longer, or of one as long that is no earlier, or of one with room
  abbrev NoBetter : CrowdedSpan → ℕ → ℕ → Type 0
  NoBetter span a b =
      (b ≤ a) ⊎ ((slots_of span < b - a) ⊎ (((slots_of span ≡ b - a) × (span.begin ≤ a)) ⊎ ((c : ℕ) × (c < suc (b - a)) × Count (Inside w a b) w.count c)))

  pub no_better : (span other : CrowdedSpan) → Crowded slots w other → NoBetter span other.begin other.end
      → (slots_of span ≤ slots_of other) × (slots_of other ≡ slots_of span → span.begin ≤ other.begin)
  no_better span other c =
      ⊎_elim (λ h. absurd (omega (arith, c.some)))
      (⊎_elim (λ h. (omega arith, λ e. absurd (omega arith)))
      (⊎_elim (λ h. (omega (arith, h.0), λ e. h.1))
      (λ h. absurd (omega (arith, h.1, count_unique h.2 c.counted, c.crowded)))))

  abbrev no_better_test : (span : CrowdedSpan) (a b : ℕ) → Test (NoBetter span a b)
  no_better_test span a b =
      either (at_most b a)
      (either (less (slots_of span) (b - a))
      (either (both (equal (slots_of span) (b - a)) (at_most span.begin a))
      (some_below (λ c. count_test (inside a b) w.count c) (suc (b - a)))))

  abbrev span_test : (span : CrowdedSpan) → Test (SpanShown slots w span)
  span_test span =
      through
      (λ t.
      let better : (other : CrowdedSpan) (c : Crowded slots w other) → _ =
      λ other c. no_better span other c (t.1 other.begin (omega (arith, c.some, c.in_day)) other.end (omega (arith, c.in_day)))
      in
      record { among = t.0; no_shorter = λ other c. (better other c).0; no_earlier = λ other c. (better other c).1 })
      (both (crowded_test span)
      (all_below {P = λ a. (b : ℕ) → b < suc slots → NoBetter span a b}
      (λ a. all_below {P = λ b. NoBetter span a b} (λ b. no_better_test span a b) (suc slots)) slots))

  abbrev same_span : (s t : CrowdedSpan) → Test (s ≡ t)
  same_span s t =
      through (λ f. rw (f.0, f.1.0, f.1.1))
      (both (equal s.begin t.begin) (both (equal s.end t.end) (equal s.jobs t.jobs)))

  -- refused by the list; with these starts for a plan; or with a span to show
  abbrev pub crowd_test : (starts : List ℕ) (answered : CrowdAnswer) → Test (CrowdPromise slots w answered)
  crowd_test starts answered =
      any_of
      (through
      (λ t. record { answer = stops (stops t.0.0); shown = λ e. absurd (t.0.1 e); refused = λ _. t.1 })
      (both (both ((judge_times slots w).refuses answered.answer) (differ answered.answer.code done)) (same_span answered.span no_span)))
      (any_of
      (through (λ t. rw t.1.1 (answer_plan_exists t.0.0 answered.answer t.1.0 (at starts, t.0.1.proper)))
      (both (both (judge_times slots w).clear (is_fit w starts).yes) (both (same_answer answered.answer (says plan_exists 0 0)) (same_span answered.span no_span))))
      (through (λ t. answer_shown t.0 answered.answer answered.span t.1.0 t.1.1)
      (both (judge_times slots w).clear (both (same_answer answered.answer (says done 0 0)) (span_test answered.span)))))

-- the plans of the rows that are refused by 21
unfoldable plans : List (List ℕ)
plans =
    [] ∷ [] ∷ [] ∷ [] ∷ [] ∷ [] ∷ [] ∷ (0 ∷ 1 ∷ []) ∷ (0 ∷ 1 ∷ 2 ∷ []) ∷ (0 ∷ 2 ∷ 9 ∷ []) ∷ [] ∷ [] ∷ [] ∷ [] ∷ [] ∷ [] ∷ []

pub crowd_examples_hold : CrowdExamplesHold
unfolding crowd_examples plans
crowd_examples_hold =
    (all_with
    (λ starts. shown_test (λ question. one_outcome.crowded_span question.slots (list_with question.jobs))
    (λ question. crowd_test question.slots (list_with question.jobs) starts))
    plans crowd_examples).shows
    refl
