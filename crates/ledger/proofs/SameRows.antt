-- Only the rows in the day's slots matter to what fills them. Assumes nothing.
use Prim.Native.Nat.{ℕ, ◌+◌, ◌≤◌, ◌<◌}
use mathlib.Core.Path.{◌≡◌, sym, ◌∙◌}
use mathlib.Core.List.{List}
use native.Mathlib.Omega.{arith}
use lib.ListN.{length, take}
use Rattle.day.specs.Windows.{at}
use Rattle.day.specs.Plan.{Plan}
use Rattle.day.specs.Count.{Count}
use Rattle.checks.specs.Check.{most_slots}
use Rattle.day.proofs.Cases.{give}
use Rattle.day.proofs.Count.{count_same}
use Rattle.claim.specs.Rows.{row_at, RowsBySlot}
use Rattle.claim.proofs.Rows.{rows_each, rows_cut}
use Rattle.ledger.specs.declared.Fill.{Fill}
use Rattle.ledger.specs.declared.Counts.{Counts}
use Rattle.ledger.specs.Sleep.{SleepTest}
use Rattle.ledger.specs.Fills.{InGap, Fills, by_job, before_first, after_last, in_awake, in_asleep}
use Rattle.ledger.specs.Count.{CountedAs, Counted}
use Rattle.ledger.proofs.InGap.{around, in_gap}

-- two functions give the same row for each slot of the day
abbrev Agree : ℕ → (ℕ → ℕ) → (ℕ → ℕ) → Type 0
Agree slots row other = (u : ℕ) → u < slots → row u ≡ other u

gap_same : {slots : ℕ} {row other : ℕ → ℕ} {t g : ℕ} → Agree slots row other → InGap slots row t g → InGap slots other t g
gap_same {slots} {row} {other} {t} {g} agree in_row =
    give (around in_row)
    (λ p.
    in_gap
    (record {
      last = p.last;
      job_before = λ e. p.job_before (agree p.last (omega (arith, p.within)) ∙ e);
      after_last = p.after_last;
      empty = λ u h l. sym (agree u (omega (arith, p.within))) ∙ p.empty u h l;
      before_next = p.before_next;
      job_after = λ e. p.job_after (agree (p.last + g + 1) p.within ∙ e);
      within = p.within;
    }))

fills_same : {test : SleepTest} {slots : ℕ} {row other : ℕ → ℕ} {t : ℕ} {f : Fill} → Agree slots row other → t < slots
    → Fills test slots row t f → Fills test slots other t f
fills_same {t = t} agree l (by_job b) = rw (agree t l) (by_job (λ e. b (agree t l ∙ e)))
fills_same agree l (before_first n) = before_first (λ u h. sym (agree u (omega arith)) ∙ n u h)
fills_same agree l (after_last s h b n) =
    after_last s h (λ e. b (agree s (omega arith) ∙ e)) (λ u k m. sym (agree u m) ∙ n u k m)
fills_same agree l (in_awake g p e) = in_awake g (gap_same agree p) e
fills_same agree l (in_asleep g p e) = in_asleep g (gap_same agree p) e

counted_as_same : {test : SleepTest} {slots : ℕ} {row other : ℕ → ℕ} {k t : ℕ} → Agree slots row other → t < slots
    → CountedAs test slots row k t → CountedAs test slots other k t
counted_as_same agree l p = record { fill = p.fill; fills = fills_same agree l p.fills; here = p.here }

module _ {test : SleepTest} {slots : ℕ} {row other : ℕ → ℕ} (agree : Agree slots row other) where
  one_count : {k c : ℕ} → Count (CountedAs test slots row k) slots c → Count (CountedAs test slots other k) slots c
  one_count = count_same (λ u l. counted_as_same agree l) (λ u l. counted_as_same (λ v h. sym (agree v h)) l)

  counted_same : {c : Counts} → Counted test slots row c → Counted test slots other c
  counted_same p =
      record {
        before = one_count p.before;
        job = one_count p.job;
        awake = one_count p.awake;
        asleep = one_count p.asleep;
        after = one_count p.after;
      }

-- from the list of the rows in the day's slots to the plan
module _ {test : SleepTest} {n slots : ℕ} {start : Plan} {rows : List ℕ} (within : slots ≤ most_slots) (r : RowsBySlot n start rows) where
  pub plan_filled : {t : ℕ} {f : Fill} → t < slots → Fills test (length (take slots rows)) (at (take slots rows)) t f
      → Fills test slots (row_at n start) t f
  plan_filled l p = fills_same (λ u h. rows_each r slots u within h) l (rw (rows_cut r slots within).long at p)

  pub plan_counted : {c : Counts} → Counted test (length (take slots rows)) (at (take slots rows)) c
      → Counted test slots (row_at n start) c
  plan_counted p = counted_same (λ u h. rows_each r slots u within h) (rw (rows_cut r slots within).long at p)
