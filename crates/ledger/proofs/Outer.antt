-- The empty slots outside the first and the last job. Assumes nothing.
use Prim.Native.Nat.{ℕ, suc, ◌+◌, ◌-◌, ◌≤◌, ◌<◌}
use mathlib.Core.Path.{◌≡◌}
use native.Mathlib.Omega.{arith}
use Rattle.checks.specs.steps.FirstOrEnd.{FirstOrEnd}
use Rattle.day.specs.Count.{counted_none}
use Rattle.day.proofs.Cases.{on_le}
use Rattle.day.proofs.Count.{count_unique, count_all, count_none}
use Rattle.ledger.specs.declared.Fill.{Fill}
use Rattle.ledger.specs.declared.Counts.{Counts}
use Rattle.ledger.specs.Sleep.{SleepTest}
use Rattle.ledger.specs.Fills.{Empty, Busy, Fills, by_job, before_first, after_last, in_awake, in_asleep}
use Rattle.ledger.specs.Count.{counted_as, Counted}
use Rattle.ledger.proofs.Fills.{not_busy}
use Rattle.ledger.proofs.CountedAs.{counts_as, five_add_up}

module _ {test : SleepTest} {slots : ℕ} {row : ℕ → ℕ} where
  counted_before : {t : ℕ} {f : Fill} → Fills test slots row t f → counted_as f ≡ 0 → (u : ℕ) → u ≤ t → Empty row u
  counted_before (by_job b) e = absurd (omega arith)
  counted_before (before_first n) e = n
  counted_before (after_last s h b n) e = absurd (omega arith)
  counted_before (in_awake g p z) e = absurd (omega arith)
  counted_before (in_asleep g p z) e = absurd (omega arith)

  -- a job comes before a slot that belongs to the count after
  counted_after : {t last : ℕ} {f : Fill} → Fills test slots row t f → counted_as f ≡ 4 → Busy row last → last < slots → last < t
  counted_after (by_job b) e job l = absurd (omega arith)
  counted_after (before_first n) e job l = absurd (omega arith)
  counted_after {t} {last} (after_last s h b n) e job l = on_le last s (λ k. omega arith) (λ k. absurd (job (n last k l)))
  counted_after (in_awake g p z) e job l = absurd (omega arith)
  counted_after (in_asleep g p z) e job l = absurd (omega arith)

  -- before counts the slots up to the first job; without jobs, all
  pub before_first_job : {c : Counts} (first : ℕ) → Counted test slots row c → FirstOrEnd slots (Busy row) first → c.before ≡ first
  before_first_job first p begun =
      count_unique p.before
      (count_none (slots - first) slots (omega (arith, begun.within))
      (count_all first first first (omega arith) (omega arith) counted_none
      (λ u h l. counts_as (before_first (λ v k. not_busy row v (begun.lowest v (omega arith))))))
      (λ u h l q. begun.fault (omega arith) (counted_before q.fills q.here first h)))

  -- after counts the slots past the last job
  pub after_last_job : {c : Counts} (last : ℕ) → Counted test slots row c → last < slots → Busy row last
      → ((u : ℕ) → last < u → u < slots → Empty row u) → c.after ≡ slots - suc last
  after_last_job last p within job clear =
      count_unique p.after
      (count_all (slots - suc last) slots (slots - suc last) (omega arith) (omega arith)
      (count_none (suc last) (suc last) (omega arith) counted_none (λ u h l q. omega (arith, counted_after q.fills q.here job within)))
      (λ u h l. counts_as (after_last last (omega arith) job clear)))

-- without jobs before is T and the rest 0
pub no_jobs : (test : SleepTest) (slots : ℕ) (row : ℕ → ℕ) (c : Counts) → ((u : ℕ) → u < slots → Empty row u) → Counted test slots row c
    → (c.before ≡ slots) × ((c.job ≡ 0) × ((c.awake ≡ 0) × ((c.asleep ≡ 0) × (c.after ≡ 0))))
no_jobs test slots row c clear p =
    let all : c.before ≡ slots =
    before_first_job slots p
    (record { within = omega arith; fault = λ h. absurd (omega arith); lowest = λ u h busy. busy (clear u h) })
    in
    let sum : c.before + c.job + c.awake + c.asleep + c.after ≡ slots = five_add_up test slots row c p in
    (all, (omega arith, (omega arith, (omega arith, omega arith))))
