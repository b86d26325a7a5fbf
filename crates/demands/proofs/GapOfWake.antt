-- By 01's sleep test and by the ledger's own: the slots of gaps of exactly L slots go from asleep to awake, and nothing else moves. Assumes nothing.
use Prim.Native.Nat.{ℕ, ◌+◌, ◌<◌}
use mathlib.Core.Path.{◌≡◌, sym, ◌∙◌}
use mathlib.Core.Bool.{true, false}
use mathlib.Core.Logic.{inl, inr, ⊎_elim}
use mathlib.Core.List.{List}
use native.Mathlib.Omega.{arith}
use borrow.Author.Tests.{le-leb, lt-leb}
use Rattle.day.specs.declared.Day.{Day}
use Rattle.day.specs.declared.Power.{Power}
use Rattle.day.specs.Windows.{Windows}
use Rattle.day.specs.Gap.{asleep}
use Rattle.day.specs.Count.{Count, counted_none}
use Rattle.day.proofs.Cases.{give, on_eq, on_le}
use Rattle.day.proofs.Gap.{price_long, price_short, asleep_long, awake_short}
use Rattle.day.proofs.Count.{count_unique, count_same, count_known, count_none, Parted, count_parted}
use Rattle.checks.specs.Answer.{done}
use Rattle.checks.proofs.Check.{list_is_check}
use Rattle.ledger.specs.declared.Fill.TheVariants.{Awake, Asleep}
use Rattle.ledger.specs.declared.Counts.{Counts}
use Rattle.ledger.specs.Sleep.{SleepTest}
use Rattle.ledger.specs.Fills.{InGap, Fills, in_awake, in_asleep}
use Rattle.ledger.specs.Count.{CountedAs, Counted}
use Rattle.ledger.specs.Promise.{plan_row}
use Rattle.ledger.proofs.InGap.{gap_within}
use Rattle.ledger.proofs.Fills.{fills_unique, fills_by, in_gap_known}
use Rattle.ledger.proofs.CountedAs.{counts_as, counted_as_unique, five_add_up}
use Rattle.ledger.proofs.Cost.{PaysPrice, asleep_pays, cost_paid}
use Rattle.ledger.proofs.Unique.{ledgered_answer, shown_answer, shown_unique}
use Rattle.demands.specs.GapOfWake.{
  GapShown,
  asleep_in_01,
  InGapOfWake,
  Woken,
  LedgerByBoth,
  SlotByBoth,
  CostByBoth,
}
use Rattle.demands.proofs.Ledger.{balanced}

pub gap_shown : GapShown
gap_shown day w starts asked shown promised code g gap = (
  (λ long. fills_unique (gap_within gap) (promised.fill code) (in_asleep g gap (asleep_long day.power g long))),
  (λ short. fills_unique (gap_within gap) (promised.fill code) (in_awake g gap (awake_short day.power g short))),
)

-- the two tests

of_wake_asleep : (power : Power) → asleep_in_01 power power.wake ≡ true
unfolding asleep_in_01
of_wake_asleep power = le-leb power.wake power.wake (omega arith)

of_wake_awake : (power : Power) → asleep power power.wake ≡ false
of_wake_awake power = awake_short power power.wake (omega arith)

else_same : (power : Power) (g : ℕ) → (g ≡ power.wake → ⊥) → asleep_in_01 power g ≡ asleep power g
unfolding asleep_in_01
else_same power g other =
    on_le power.wake g
    (λ l. le-leb power.wake g l ∙ sym (asleep_long power g (omega arith)))
    (λ l. lt-leb power.wake g l ∙ sym (awake_short power g (omega arith)))

pays_in_01 : (power : Power) → PaysPrice power (asleep_in_01 power)
unfolding asleep_in_01
pays_in_01 power g =
    on_le power.wake g
    (λ l. price_long power g l ∙ rw (le-leb power.wake g l))
    (λ l. price_short power g (omega arith) ∙ rw (lt-leb power.wake g l))

pub cost_by_both : CostByBoth
cost_by_both day n start = (
  cost_paid day (asleep_in_01 day.power) n start (pays_in_01 day.power),
  cost_paid day (asleep day.power) n start (asleep_pays day.power),
)

-- two tests that differ for gaps of one length alone
module _ {test other : SleepTest} {slots length : ℕ} {row : ℕ → ℕ} (agree : (g : ℕ) → (g ≡ length → ⊥) → test g ≡ other g) where
  -- outside such gaps a slot stays in its count
  outside : {k t : ℕ} → (InGap slots row t length → ⊥) → CountedAs test slots row k t → CountedAs other slots row k t
  outside none p =
      record { fill = p.fill; fills = fills_by (λ g q. agree g (λ z. none (rw z at q))) p.fills; here = p.here }

  -- and a slot of a count that they are not in stays as well
  stays : {j k t : ℕ} → (InGap slots row t length → CountedAs test slots row j t) → (j ≡ k → ⊥) → t < slots
      → CountedAs test slots row k t → CountedAs other slots row k t
  stays {t = t} inside apart l p =
      ⊎_elim (λ gap. absurd (apart (counted_as_unique l (inside gap) p))) (λ none. outside none p) (in_gap_known test slots row t l length)

module _ (day : Day) (w : Windows) (starts : List ℕ) where
  abbrev old_test : SleepTest
  old_test = asleep_in_01 day.power

  abbrev new_test : SleepTest
  new_test = asleep day.power

  -- slot t belongs to count k by a test; 2 is awake and 3 asleep
  abbrev In : SleepTest → ℕ → ℕ → Type 0
  In test = CountedAs test day.slots (plan_row w starts)

  was_asleep : {t : ℕ} → InGapOfWake day w starts t → Fills old_test day.slots (plan_row w starts) t Asleep
  was_asleep gap = in_asleep day.power.wake gap (of_wake_asleep day.power)

  is_awake : {t : ℕ} → InGapOfWake day w starts t → Fills new_test day.slots (plan_row w starts) t Awake
  is_awake gap = in_awake day.power.wake gap (of_wake_awake day.power)

  to_new : {k t : ℕ} → (3 ≡ k → ⊥) → t < day.slots → In old_test k t → In new_test k t
  to_new = stays (else_same day.power) (λ gap. counts_as (was_asleep gap))

  to_old : {k t : ℕ} → (2 ≡ k → ⊥) → t < day.slots → In new_test k t → In old_test k t
  to_old = stays (λ g z. sym (else_same day.power g z)) (λ gap. counts_as (is_awake gap))

  same_count : {k c d : ℕ} → (3 ≡ k → ⊥) → (2 ≡ k → ⊥) → Count (In old_test k) day.slots c → Count (In new_test k) day.slots d → c ≡ d
  same_count asleep awake p q = count_unique (count_same (λ u l. to_new asleep l) (λ u l. to_old awake l) p) q

  -- the awake slots are those of before and those of the gaps of exactly L slots
  awake_parted : (t : ℕ) → t < day.slots → Parted (In old_test 2 t) (InGapOfWake day w starts t) (In new_test 2 t)
  awake_parted t l =
      record {
        first = to_new (λ e. omega arith) l;
        second = λ gap. counts_as (is_awake gap);
        either = λ p.
            ⊎_elim (λ gap. inr gap) (λ none. inl (outside (λ g z. sym (else_same day.power g z)) none p))
            (in_gap_known new_test day.slots (plan_row w starts) t l day.power.wake);
        apart = λ p gap. omega (arith, counted_as_unique l p (counts_as (was_asleep gap)));
      }

  woken : (old new : Counts) → Counted old_test day.slots (plan_row w starts) old → Counted new_test day.slots (plan_row w starts) new
      → Woken day w starts old new
  woken old new p q =
      give (count_known day.slots (λ t l. in_gap_known new_test day.slots (plan_row w starts) t l day.power.wake))
      (λ gaps.
      let before : old.before ≡ new.before = same_count (λ e. omega arith) (λ e. omega arith) p.before q.before in
      let job : old.job ≡ new.job = same_count (λ e. omega arith) (λ e. omega arith) p.job q.job in
      let after : old.after ≡ new.after = same_count (λ e. omega arith) (λ e. omega arith) p.after q.after in
      let awake : old.awake + gaps.0 ≡ new.awake = count_parted awake_parted p.awake gaps.1 q.awake in
      record {
        woken = gaps.0;
        in_gaps_of_wake = gaps.1;
        before = before;
        job = job;
        awake = awake;
        asleep =
            omega (
              arith,
              five_add_up old_test day.slots (plan_row w starts) old p,
              five_add_up new_test day.slots (plan_row w starts) new q,
            );
        after = after;
      })

  -- where there is no such gap nothing moved
  none_woken : (old new : Counts) → ((t : ℕ) → InGapOfWake day w starts t → ⊥) → Woken day w starts old new → old ≡ new
  none_woken old new none p =
      let no_slot : p.woken ≡ 0 =
      count_unique p.in_gaps_of_wake (count_none day.slots day.slots (omega arith) counted_none (λ u h l. none u))
      in
      let awake : old.awake ≡ new.awake = omega (arith, p.awake) in
      let asleep : old.asleep ≡ new.asleep = omega (arith, p.asleep) in
      rw (p.before, p.job, awake, asleep, p.after)

  no_gap_of_0 : day.power.wake ≡ 0 → (t : ℕ) → InGapOfWake day w starts t → ⊥
  no_gap_of_0 none t gap = omega (arith, gap.gap.some)

pub ledger_by_both : LedgerByBoth
ledger_by_both day w starts old new p q =
    record {
      answer = answer;
      accepted = accepted;
      refused = refused;
      no_such_gap = no_such_gap;
      no_wake = λ none. no_such_gap (no_gap_of_0 day w starts none);
      cost = λ e. balanced (asleep_in_01 day.power) day w starts old.counts (pays_in_01 day.power) (p.accepted e);
    }
  where
    answer : old.answer ≡ new.answer
    answer = ledgered_answer list_is_check day w starts old new p q

    accepted : old.answer.code ≡ done → Woken day w starts old.counts new.counts
    accepted e = woken day w starts old.counts new.counts (p.accepted e) (q.accepted (rw answer at e))

    refused : (old.answer.code ≡ done → ⊥) → old ≡ new
    refused e = rw (answer, p.refused e ∙ sym (q.refused (rw answer at e)))

    no_such_gap : ((t : ℕ) → InGapOfWake day w starts t → ⊥) → old ≡ new
    no_such_gap none =
        on_eq old.answer.code done
        (λ e. rw (answer, none_woken day w starts old.counts new.counts none (accepted e)))
        refused

pub slot_by_both : SlotByBoth
slot_by_both day w starts asked old new p q =
    record {
      answer = answer;
      in_gap_of_wake = λ e gap. (
        rw (p.slot e, fills_unique (gap_within gap) (p.fill e) (was_asleep day w starts gap)),
        rw (q.slot (rw answer at e), fills_unique (gap_within gap) (q.fill (rw answer at e)) (is_awake day w starts gap)),
      );
      refused = λ refused. same (λ e. absurd (refused e));
      elsewhere = λ none. same (λ e. fills_by (λ g gap. else_same day.power g (λ z. none (rw z at gap))) (p.fill e));
    }
  where
    answer : old.answer ≡ new.answer
    answer = shown_answer list_is_check day w starts asked old new p q

    -- what fills the slot by the new test too is shown by both
    same : (old.answer.code ≡ done → Fills (asleep day.power) day.slots (plan_row w starts) asked old.held.fill) → old ≡ new
    same fill =
        shown_unique list_is_check day w starts asked old new
        (record { answer = p.answer; slot = p.slot; fill = fill; refused = p.refused }) q
