-- The walk over the slots that counts them: what is known at each slot. Assumes nothing.
use Prim.Native.Nat.{ℕ, ◌+◌, ◌-◌, ◌≤◌, ◌<◌}
use mathlib.Core.Path.{◌≡◌, ◌∙◌}
use mathlib.Core.Bool.{cond}
use native.Mathlib.Omega.{arith}
use Rattle.checks.specs.steps.FirstOrEnd.{FirstOrEnd}
use Rattle.day.specs.Count.{counted_none}
use Rattle.day.proofs.Cases.{give, on, on_eq}
use Rattle.ledger.specs.declared.Counts.{Counts}
use Rattle.ledger.specs.Sleep.{SleepTest}
use Rattle.ledger.specs.Fills.{Empty, Busy, InGap, by_job, before_first, after_last, in_awake, in_asleep}
use Rattle.ledger.specs.Count.{Counted}
use Rattle.ledger.proofs.InGap.{in_gap}
use Rattle.ledger.proofs.Fills.{not_busy}
use Rattle.ledger.proofs.CountedAs.{gain, CountedTo, counted_to_end, counts_as, counted_block}

abbrev pub five : ℕ → ℕ → ℕ → ℕ → ℕ → Counts
five before job awake asleep after = record { before = before; job = job; awake = awake; asleep = asleep; after = after }

-- of a gap all slots are slept through, or none
slept_at_most : {dark : ℕ} (test : SleepTest) (g : ℕ) → dark ≡ cond (test g) g 0 → dark ≤ g
slept_at_most {dark} test g e =
    on (test g) (λ z. let all : dark ≡ g = e ∙ rw z in omega arith) (λ z. let nothing : dark ≡ 0 = e ∙ rw z in omega arith)

-- the walk began at the first job and stands at a slot: the slots below `settled` are counted, those from there on are empty so far
pub record Walked (test : SleepTest) (slots : ℕ) (row : ℕ → ℕ) (first job awake asleep empty slot : ℕ) : Type 0 where
  pub within : slot ≤ slots
  pub begun : FirstOrEnd slots (Busy row) first
  pub past : first ≤ slot
  pub sum : first + job + awake + asleep + empty ≡ slot
  pub settled : CountedTo test slots row (slot - empty) (five first job awake asleep 0)
  pub waiting : (u : ℕ) → slot - empty ≤ u → u < slot → Empty row u
  pub last : first < slot → (1 ≤ slot - empty) × Busy row (slot - empty - 1)

module _ {test : SleepTest} {slots : ℕ} {row : ℕ → ℕ} where
  counts_none : CountedTo test slots row 0 (five 0 0 0 0 0)
  counts_none = record { before = counted_none; job = counted_none; awake = counted_none; asleep = counted_none; after = counted_none }

  pub walked_first : {first : ℕ} → FirstOrEnd slots (Busy row) first → Walked test slots row first 0 0 0 0 first
  unfolding gain
  walked_first {first} begun =
      record {
        within = begun.within;
        begun = begun;
        past = omega arith;
        sum = omega arith;
        settled =
            counted_block {m = 0} {c = five 0 0 0 0 0} {d = five first 0 0 0 0} 0 first (first - 0) (omega arith)
            (omega (arith, begun.within))
            (λ u h l.
            counts_as (before_first (λ v k. not_busy row v (begun.lowest v (omega arith)))))
            counts_none (omega arith) (omega arith) (omega arith) (omega arith) (omega arith);
        waiting = λ u h l. absurd (omega arith);
        last = λ h. absurd (omega arith);
      }

  -- an empty slot waits for the job that shows what it is
  pub walked_empty : {first job awake asleep empty slot empty-after : ℕ} → Walked test slots row first job awake asleep empty slot
      → slot < slots → Empty row slot → empty-after ≡ empty + 1 → Walked test slots row first job awake asleep empty-after (slot + 1)
  walked_empty {first} {job} {awake} {asleep} {empty} {slot} p within here e =
      let same : slot + 1 - (empty + 1) ≡ slot - empty = omega arith in
      rw e
      record {
        within = omega arith;
        begun = p.begun;
        past = omega (arith, p.past);
        sum = omega (arith, p.sum);
        settled = rw same p.settled;
        waiting = λ u h l. on_eq u slot (λ z. rw z here) (λ z. p.waiting u (omega arith) (omega arith));
        last = λ h. rw same (p.last (before_here p.past));
      }
    where
      before_here : first ≤ slot → first < slot
      before_here h = on_eq first slot (λ z. absurd (p.begun.fault (omega arith) (rw z here))) (λ z. omega arith)

  -- a job ends the gap of the slots that wait
  gap_around : {first job awake asleep empty slot : ℕ} → Walked test slots row first job awake asleep empty slot
      → slot < slots → Busy row slot
      → (u : ℕ) → slot - empty ≤ u → u < slot → InGap slots row u empty
  gap_around {first} {job} {awake} {asleep} {empty} {slot} p within busy u h l =
      give (p.last (omega (arith, p.sum)))
      (λ behind.
      let next : slot - empty - 1 + empty + 1 ≡ slot = omega (arith, behind.0, p.sum) in
      in_gap
      (record {
        last = slot - empty - 1;
        job_before = behind.1;
        after_last = omega (arith, behind.0);
        empty = λ v a b. p.waiting v (omega (arith, behind.0)) (omega (arith, behind.0));
        before_next = omega (arith, next);
        job_after = rw next busy;
        within = omega (arith, next);
      }))

  -- the slots that wait are counted awake or asleep
  gap_settled : {first job awake asleep empty slot dark : ℕ} → Walked test slots row first job awake asleep empty slot → slot < slots
      → Busy row slot → dark ≡ cond (test empty) empty 0
      → CountedTo test slots row slot (five first job (awake + (empty - dark)) (asleep + dark) 0)
  unfolding gain
  gap_settled {first} {job} {awake} {asleep} {empty} {slot} {dark} p within busy e =
      on (test empty)
      (λ z.
      let all : dark ≡ empty = e ∙ rw z in
      counted_block {m = slot - empty} {c = five first job awake asleep 0} 3 empty slot (omega (arith, p.sum)) (omega arith)
      (λ u h l. counts_as (in_asleep empty (gap_around p within busy u h l) z)) p.settled
      (omega arith) (omega arith) (omega arith) (omega arith) (omega arith))
      (λ z.
      let all : dark ≡ 0 = e ∙ rw z in
      counted_block {m = slot - empty} {c = five first job awake asleep 0} 2 empty slot (omega (arith, p.sum)) (omega arith)
      (λ u h l. counts_as (in_awake empty (gap_around p within busy u h l) z)) p.settled
      (omega arith) (omega arith) (omega arith) (omega arith) (omega arith))

  pub walked_job : {first job awake asleep empty slot dark job_after awake-after asleep-after empty-after : ℕ}
      → Walked test slots row first job awake asleep empty slot
      → slot < slots → Busy row slot → dark ≡ cond (test empty) empty 0
      → asleep-after ≡ asleep + dark → awake-after ≡ awake + (empty - dark) → job_after ≡ job + 1 → empty-after ≡ 0
      → Walked test slots row first job_after awake-after asleep-after empty-after (slot + 1)
  unfolding gain
  walked_job {first} {job} {awake} {asleep} {empty} {slot} {dark} p within busy d a w j e =
      rw (a, w, j, e)
      record {
        within = omega arith;
        begun = p.begun;
        past = omega (arith, p.past);
        sum = omega (arith, p.sum, slept_at_most test empty d);
        settled =
            counted_block {m = slot} {c = five first job (awake + (empty - dark)) (asleep + dark) 0} 1 1 (slot + 1 - 0) (omega arith)
            (omega arith)
            (λ u h l.
            let here : u ≡ slot = omega arith in
            counts_as (by_job (rw here busy)))
            (gap_settled p within busy d) (omega arith) (omega arith) (omega arith) (omega arith) (omega arith);
        waiting = λ u h l. absurd (omega arith);
        last = λ h.
            let here : slot + 1 - 0 - 1 ≡ slot = omega arith in
            (omega arith, rw here busy);
      }

  -- the slots that still wait at the end come after the last job
  pub walked_end : {first job awake asleep empty slot : ℕ} → Walked test slots row first job awake asleep empty slot → slots ≤ slot
      → Counted test slots row (five first job awake asleep empty)
  unfolding gain
  walked_end {first} {job} {awake} {asleep} {empty} {slot} p end =
      counted_to_end
      (counted_block {m = slot - empty} {c = five first job awake asleep 0} 4 empty slots (omega (arith, p.sum, p.within)) (omega arith)
      (λ u h l.
      give (p.last (omega (arith, p.sum, p.within)))
      (λ behind.
      counts_as
      (after_last (slot - empty - 1) (omega (arith, behind.0)) behind.1
      (λ v a b. p.waiting v (omega (arith, behind.0)) (omega arith)))))
      p.settled (omega arith) (omega arith) (omega arith) (omega arith) (omega arith))
