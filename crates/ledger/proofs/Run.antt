-- Laws of the searches over a list of rows by slot. Assumes nothing.
use Prim.Native.Nat.{ℕ, ◌+◌, ◌-◌, ◌≤◌, ◌<◌}
use mathlib.Core.Path.{◌≡◌}
use mathlib.Core.List.{List}
use native.Mathlib.Omega.{arith}
use lib.ListN.{length}
use Rattle.std.specs.Prelude.{Option, Some, None, unwrap_or, max}
use Rattle.day.specs.Windows.{at}
use Rattle.checks.specs.steps.FirstOrEnd.{FirstOrEnd}
use Rattle.day.proofs.Cases.{on_eq, on_le, not_both}
use Rattle.claim.specs.Rows.{NextJob, FoundJob}
use Rattle.claim.proofs.Rows.{holds_job_true, holds_job_false, next_within}
use Rattle.ledger.specs.declared.Fill.TheVariants.{Before, After}
use Rattle.ledger.specs.Sleep.{SleepTest}
use Rattle.ledger.specs.Fills.{Empty, Busy, InGap, Fills, before_first, after_last}
use Rattle.ledger.specs.steps.Run.{LastJob}
use Rattle.ledger.proofs.InGap.{in_gap}
use Rattle.ledger.proofs.Fills.{not_busy}

-- the next job from the first slot on is the first
next_first : {rows : List ℕ} {s : ℕ} → NextJob rows 0 s → FirstOrEnd (length rows) (Busy (at rows)) s
next_first {rows} {s} next =
    record {
      within = next_within next (omega arith);
      fault = λ h e. not_both (next.job h) (holds_job_false (at rows) s e);
      lowest = λ u h busy. next.empty_before u h (omega arith) (holds_job_true (at rows) u busy);
    }

pub found_first : (rows : List ℕ) (found : Option ℕ) → FoundJob rows 0 found
    → FirstOrEnd (length rows) (Busy (at rows)) (unwrap_or found (length rows))
found_first rows (Some s) p = next_first p.1
found_first rows None p = let all : max 0 (length rows) ≡ length rows = omega arith in next_first (rw all at p)

-- with no job before it, a slot is before the first
pub run_before : {test : SleepTest} {slots slot : ℕ} {row : ℕ → ℕ} → Empty row slot → ((u : ℕ) → u < slot → Empty row u)
    → Fills test slots row slot Before
run_before {slot = slot} here clear = before_first (λ u h. on_eq u slot (λ z. rw z here) (λ z. clear u (omega arith)))

module _ {rows : List ℕ} {slot last next : ℕ} (here : Empty (at rows) slot) (before : LastJob (at rows) slot last) (after : NextJob rows slot next) where
  clear_to : (u : ℕ) → last < u → u < next → Empty (at rows) u
  clear_to u h l =
      on_le slot u (λ k. not_busy (at rows) u (λ busy. after.empty_before u l k (holds_job_true (at rows) u busy)))
      (λ k. before.empty u h k)

  -- with no job from there on it is after the last
  pub run_after : {test : SleepTest} → length rows ≤ next → Fills test (length rows) (at rows) slot After
  run_after end = after_last last before.earlier before.job (λ u h l. clear_to u h (omega arith))

  -- else it is in a gap
  pub run_gap : next < length rows → InGap (length rows) (at rows) slot (next - last - 1)
  run_gap within =
      let busy : Busy (at rows) next = λ e. not_both (after.job within) (holds_job_false (at rows) next e) in
      let later : slot < next = on_eq slot next (λ z. absurd (busy (rw z at here))) (λ z. omega (arith, after.later)) in
      let end : last + (next - last - 1) + 1 ≡ next = omega (arith, before.earlier) in
      in_gap
      (record {
        last = last;
        job_before = before.job;
        after_last = before.earlier;
        empty = λ u h k. clear_to u h (omega (arith, end));
        before_next = omega (arith, end);
        job_after = rw end busy;
        within = omega (arith, end);
      })
