-- A slot in a gap, by the job before it and the job after it. Assumes nothing.
use Prim.Native.Nat.{ℕ, suc, ◌+◌, ◌-◌, ◌≤◌, ◌<◌}
use mathlib.Core.Path.{◌≡◌}
use native.Mathlib.Omega.{arith}
use Rattle.day.proofs.Cases.{give, on_eq, not_both}
use Rattle.day.proofs.GapRuns.{gap_around, around_gap}
use Rattle.claim.specs.Rows.{holds_job}
use Rattle.claim.proofs.Rows.{holds_job_true, holds_job_false}
use Rattle.ledger.specs.Fills.{Empty, Busy, InGap}

-- the g slots between a job at slot `last` and the next job, all of them empty, and slot t among them
pub record GapAround (slots : ℕ) (row : ℕ → ℕ) (t g : ℕ) : Type 0 where
  pub last : ℕ
  pub job_before : Busy row last
  pub after_last : last < t
  pub empty : (u : ℕ) → last < u → u ≤ last + g → Empty row u
  pub before_next : t ≤ last + g
  pub job_after : Busy row (last + g + 1)
  pub within : last + g + 1 < slots

module _ {slots : ℕ} {row : ℕ → ℕ} {t g : ℕ} where
  -- a slot in a gap is one of the day's
  pub gap_within : InGap slots row t g → t < slots
  gap_within p = omega (arith, p.not_over, p.gap.job_after.1, p.gap.job_after.2)

  pub around : InGap slots row t g → GapAround slots row t g
  around p =
      give (gap_around (holds_job row) slots p.gap)
      (λ next-to.
      let end : p.from - 1 + g + 1 ≡ p.from + g = omega (arith, next-to.later) in
      record {
        last = p.from - 1;
        job_before = λ e. not_both next-to.before (holds_job_false row (p.from - 1) e);
        after_last = omega (arith, next-to.later, p.begun);
        empty = λ u h l.
            on_eq (row u) 0 (λ e. e)
            (λ busy.
            absurd (not_both (holds_job_true row u busy)
            (p.gap.empty u (omega (arith, next-to.later)) (omega (arith, next-to.later)))));
        before_next = omega (arith, next-to.later, p.not_over);
        job_after = rw end (λ e. not_both next-to.after (holds_job_false row (p.from + g) e));
        within = rw end next-to.within;
      })

  pub in_gap : GapAround slots row t g → InGap slots row t g
  in_gap p =
      let before : suc p.last - 1 ≡ p.last = omega arith in
      let end : suc p.last + g ≡ p.last + g + 1 = omega arith in
      record {
        from = suc p.last;
        gap =
            around_gap (holds_job row) slots (omega (arith, p.after_last, p.before_next))
            (λ u h l. holds_job_false row u (p.empty u (omega arith) (omega arith)))
            (record {
              later = omega arith;
              before = rw before (holds_job_true row p.last p.job_before);
              after = rw end (holds_job_true row (p.last + g + 1) p.job_after);
              within = omega (arith, p.within);
            });
        begun = omega (arith, p.after_last);
        not_over = omega (arith, p.before_next);
      }
