-- The examples of the ledger and of one slot's record hold: each row's outcome is tested. Assumes nothing.
use Prim.Native.Nat.{ℕ, zero, suc, ◌+◌, ◌-◌, ◌≤◌, ◌<◌}
use mathlib.Core.Path.{◌≡◌, refl}
use mathlib.Core.Bool.{cond}
use mathlib.Core.List.{List}
use mathlib.Core.Logic.{◌⊎◌, ⊎_elim}
use native.Mathlib.Omega.{arith}
use lib.Dec.{eqb}
use Rattle.day.specs.declared.Day.{Day}
use Rattle.day.specs.Windows.{Windows}
use Rattle.day.specs.Gap.{asleep}
use Rattle.day.specs.Count.{counted_none}
use Rattle.checks.specs.Answer.{done}
use Rattle.checks.specs.Check.{ListCheck}
use Rattle.claim.specs.Rows.{row_at, holds_job}
use Rattle.rule.specs.Extreme.{latest}
use Rattle.ledger.specs.declared.Fill.{Fill}
use Rattle.ledger.specs.declared.Fill.TheVariants.{Job, Before, Awake, Asleep, After}
use Rattle.ledger.specs.declared.Counts.{Counts}
use Rattle.ledger.specs.declared.LedgerAnswer.{LedgerAnswer}
use Rattle.ledger.specs.declared.SlotFill.{SlotFill}
use Rattle.ledger.specs.declared.SlotAnswer.{SlotAnswer}
use Rattle.ledger.specs.Sleep.{SleepTest}
use Rattle.ledger.specs.Fills.{Empty, InGap, Fills, by_job, before_first, after_last, in_awake, in_asleep}
use Rattle.ledger.specs.Count.{counted_as, Counted}
use Rattle.ledger.specs.Promise.{plan_row, no_counts, no_slot, LedgeredBy, ShownBy}
use Rattle.ledger.proofs.InGap.{in_gap}
use Rattle.ledger.proofs.CountedAs.{gain, CountedTo, counted_to_end, counts_as, counted_block}
use Rattle.demands.specs.ExamplesOfLedger.{ledger_examples, LedgerExamplesHold, Asked, slot_examples, SlotExamplesHold}
use Rattle.demands.proofs.Test.{
  Test,
  less,
  at_most,
  equal,
  is_true,
  is_false,
  holds,
  fails,
  both,
  either,
  through,
  differ,
  by_equal,
  is_at_most,
  all_below,
  all_in,
}
use Rattle.demands.proofs.ExamplesChecked.{shown_test, answers, judge_whole, passed}
use Rattle.demands.proofs.ExamplesOfClaims.{judge_claim}
use Rattle.demands.proofs.OneOutcome.{one_outcome}

-- the last slot before t that holds a job; 0 where none does
abbrev last_job : (ℕ → ℕ) → ℕ → ℕ
last_job row t = latest (holds_job row) t

-- of the m slots from t on the first that holds a job; the end where none does
abbrev next_job : (ℕ → ℕ) → ℕ → ℕ → ℕ
next_job row t zero = t
next_job row t (suc m) = cond (holds_job row t) t (next_job row (suc t) m)

module _ (test : SleepTest) (slots : ℕ) (row : ℕ → ℕ) where
  abbrev next_after : ℕ → ℕ
  next_after t = next_job row (suc t) (slots - suc t)

  -- how many slots lie between the jobs around slot t
  abbrev gap_around : ℕ → ℕ
  gap_around t = next_after t - suc (last_job row t)

  -- what fills slot t, found by search
  abbrev fill_at : ℕ → Fill
  fill_at t =
      cond (holds_job row t) (Job (row t))
      (cond (eqb (row (last_job row t)) 0) Before
      (cond (eqb (next_after t) slots) After (cond (test (gap_around t)) Asleep Awake)))

  abbrev empty_between : (lo hi : ℕ) → Test ((u : ℕ) → lo < u → u < hi → Empty row u)
  empty_between lo hi =
      through (λ f u a b. ⊎_elim (λ h. absurd (omega arith)) (λ h. h) (f u b))
      (all_below {P = λ u. (u ≤ lo) ⊎ Empty row u} (λ u. either (at_most u lo) (equal (row u) 0)) hi)

  abbrev pub gap_test : (t last g : ℕ) → Test (InGap slots row t g)
  gap_test t last g =
      through
      (λ f.
      in_gap
      (record {
        last = last;
        job_before = f.0.0;
        after_last = f.0.1;
        empty = λ u a b. f.1.0 u a (omega arith);
        before_next = f.1.1.0;
        job_after = f.1.1.1.0;
        within = f.1.1.1.1;
      }))
      (both (both (differ (row last) 0) (less last t))
      (both (empty_between last (suc (last + g)))
      (both (at_most t (last + g)) (both (differ (row (last + g + 1)) 0) (less (last + g + 1) slots)))))

  abbrev fills : (t : ℕ) (f : Fill) → Test (Fills test slots row t f)
  fills t (Job r) = through (λ f. rw f.0 (by_job f.1)) (both (equal r (row t)) (differ (row t) 0))
  fills t Before =
      through (λ f. before_first (λ u l. f u (omega arith))) (all_below {P = Empty row} (λ u. equal (row u) 0) (suc t))
  fills t Awake =
      through (λ f. in_awake (gap_around t) f.0 f.1)
      (both (gap_test t (last_job row t) (gap_around t)) (is_false (test (gap_around t))))
  fills t Asleep =
      through (λ f. in_asleep (gap_around t) f.0 f.1)
      (both (gap_test t (last_job row t) (gap_around t)) (is_true (test (gap_around t))))
  fills t After =
      through (λ f. after_last (last_job row t) f.0 f.1.0 f.1.1)
      (both (less (last_job row t) t) (both (differ (row (last_job row t)) 0) (empty_between (last_job row t) slots)))

  module _ (fill : ℕ → Fill) where
    -- how many of the slots below m belong to count k
    abbrev tally_in : ℕ → ℕ → ℕ
    tally_in k zero = 0
    tally_in k (suc m) = tally_in k m + gain k (counted_as (fill m)) 1

    abbrev tally : ℕ → Counts
    tally m =
        record { before = tally_in 0 m; job = tally_in 1 m; awake = tally_in 2 m; asleep = tally_in 3 m; after = tally_in 4 m }

    pub tally_counts : ((t : ℕ) → t < slots → Fills test slots row t (fill t)) → (m : ℕ) → m ≤ slots
        → CountedTo test slots row m (tally m)
    tally_counts right zero l = record { before = counted_none; job = counted_none; awake = counted_none; asleep = counted_none; after = counted_none }
    tally_counts right (suc m) l =
        counted_block (counted_as (fill m)) 1 (suc m) (omega arith) l
        (λ u h b. let here : u ≡ m = omega arith in rw here (counts_as (right m (omega arith))))
        (tally_counts right m (omega arith)) refl refl refl refl refl

abbrev pub same_counts : (c d : Counts) → Test (c ≡ d)
same_counts c d =
    through (λ f. rw (f.0, f.1.0, f.1.1.0, f.1.1.1.0, f.1.1.1.1))
    (both (equal c.before d.before)
    (both (equal c.job d.job)
    (both (equal c.awake d.awake) (both (equal c.asleep d.asleep) (equal c.after d.after)))))

abbrev counted : (test : SleepTest) (slots : ℕ) (row : ℕ → ℕ) (c : Counts) → Test (Counted test slots row c)
counted test slots row c =
    through (λ f. rw f.1 (counted_to_end (tally_counts test slots row (fill_at test slots row) f.0 slots (omega arith))))
    (both (all_below (λ t. fills test slots row t (fill_at test slots row t)) slots)
    (same_counts c (tally test slots row (fill_at test slots row) slots)))

abbrev pub ledger_test : (test : SleepTest) (day : Day) (w : Windows) (starts : List ℕ) (answered : LedgerAnswer)
    → Test (LedgeredBy test (ListCheck day w) day w starts answered)
ledger_test test day w starts answered =
    through (λ f. record { answer = f.0; accepted = f.1.0; refused = f.1.1 })
    (both (answers (judge_claim day w starts) passed answered.answer)
    (by_equal answered.answer.code done (counted test day.slots (plan_row w starts) answered.counts)
    (same_counts answered.counts no_counts)))

pub ledger_examples_hold : LedgerExamplesHold
unfolding ledger_examples gain latest holds_job row_at asleep
ledger_examples_hold =
    (all_in
    (shown_test (λ claim. one_outcome.ledger claim.day claim.rows claim.starts)
    (λ claim. ledger_test (asleep claim.day.power) claim.day claim.rows claim.starts))
    ledger_examples).shows
    refl

pub same_slot : (a b : SlotFill) → a.slot ≡ b.slot → a.fill ≡ b.fill → a ≡ b
same_slot a b p q = rw (p, q)

abbrev is_before : (f : Fill) → Test (f ≡ Before)
is_before Before = holds refl
is_before (Job r) = fails
is_before Awake = fails
is_before Asleep = fails
is_before After = fails

abbrev pub slot_test : (test : SleepTest) (asked : Asked) (shown : SlotAnswer)
    → Test (ShownBy test (ListCheck asked.claim.day asked.claim.rows) asked.claim.day asked.claim.rows asked.claim.starts asked.slot shown)
slot_test test asked shown =
    through (λ f. record { answer = f.0; slot = λ e. (f.1.0 e).0; fill = λ e. (f.1.0 e).1; refused = f.1.1 })
    (both
    (answers (judge_claim asked.claim.day asked.claim.rows asked.claim.starts)
    (answers (judge_whole _ (is_at_most asked.claim.day.slots asked.slot)) passed) shown.answer)
    (by_equal shown.answer.code done
    (both (equal shown.held.slot asked.slot)
    (fills test asked.claim.day.slots (plan_row asked.claim.rows asked.claim.starts) asked.slot shown.held.fill))
    (through (λ f. same_slot shown.held no_slot f.0 f.1)
    (both (equal shown.held.slot 0) (is_before shown.held.fill)))))

pub slot_examples_hold : SlotExamplesHold
unfolding slot_examples latest holds_job row_at asleep
slot_examples_hold =
    (all_in
    (shown_test (λ asked. one_outcome.slot asked.claim.day asked.claim.rows asked.claim.starts asked.slot)
    (λ asked. slot_test (asleep asked.claim.day.power) asked))
    slot_examples).shows
    refl
