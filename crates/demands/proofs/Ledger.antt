-- The ledger balances and its outer slots, and a row's slot, from the ledger's laws. Assumes nothing.
use Prim.Native.Nat.{ℕ, ◌<◌}
use mathlib.Core.Path.{◌≡◌, sym, ◌∙◌}
use mathlib.Core.List.{List}
use native.Mathlib.Omega.{arith}
use Rattle.checks.specs.declared.Answer.{Answer}
use Rattle.day.specs.declared.Day.{Day}
use Rattle.day.specs.Windows.{Windows, at}
use Rattle.day.specs.Gap.{asleep}
use Rattle.checks.specs.Answer.{done}
use Rattle.checks.specs.Refusal.{◌then◌}
use Rattle.checks.specs.Check.{ListCheck, Accepted}
use Rattle.day.proofs.Cases.{give}
use Rattle.day.proofs.Plan.{Taker, taken_true}
use Rattle.checks.proofs.Refusal.{passed_clear, clear_first, clear_next}
use Rattle.checks.proofs.Check.{list_is_check, clear_accepted}
use Rattle.claim.specs.Claim.{Fit, ClaimCheck}
use Rattle.claim.proofs.Claim.{claim_is_check, clear_fit, fit_below}
use Rattle.claim.proofs.Rows.{row_at_own, row_at_taken, holds_job_true}
use Rattle.ledger.specs.declared.Counts.{Counts}
use Rattle.ledger.specs.Sleep.{SleepTest}
use Rattle.ledger.specs.Fills.{Busy}
use Rattle.ledger.specs.Count.{Counted}
use Rattle.ledger.specs.Promise.{plan_row}
use Rattle.ledger.proofs.CountedAs.{five_add_up}
use Rattle.ledger.proofs.Cost.{PaysPrice, asleep_pays, cost_of_ledger}
use Rattle.ledger.proofs.Fills.{not_busy, fills_unique}
use Rattle.ledger.proofs.Outer.{before_first_job, after_last_job, no_jobs}
use Rattle.ledger.proofs.Fills.{row_fills}
use Rattle.demands.specs.Ledger.{Balanced, LedgerBalances, LedgerOuter, RowShown}

-- counts by any sleep test that pays the price
pub balanced : (test : SleepTest) (day : Day) (w : Windows) (starts : List ℕ) (counts : Counts) → PaysPrice day.power test
    → Counted test day.slots (plan_row w starts) counts → Balanced test day w starts counts
balanced test day w starts counts pays counted =
    record {
      slots = five_add_up test day.slots (plan_row w starts) counts counted;
      cost = cost_of_ledger day w.count (at starts) counts pays counted;
    }

pub ledger_balances : LedgerBalances
ledger_balances day w starts ledger promised code =
    balanced (asleep day.power) day w starts ledger.counts (asleep_pays day.power) (promised.accepted code)

-- what code 0 tells of a claimed plan
module _ (day : Day) (w : Windows) (starts : List ℕ) {Next : Answer → Type 0} {a : Answer}
    (answer : (ClaimCheck (ListCheck day w) w starts then Next) a) (code : a.code ≡ done) where
  accepted : Accepted day w
  accepted = clear_accepted (clear_first (passed_clear (claim_is_check list_is_check w starts) a answer code))

  fit : Fit w starts
  fit = clear_fit w starts (clear_next (passed_clear (claim_is_check list_is_check w starts) a answer code))

-- a row stands in a slot only if it starts there
starter : (w : Windows) (starts : List ℕ) (t : ℕ) → Busy (plan_row w starts) t → Taker w.count (at starts) t
starter w starts t busy =
    taken_true w.count (at starts) t (sym (row_at_taken w.count (at starts) t) ∙ holds_job_true (plan_row w starts) t busy)

-- a row of a fit plan stands where it starts
own_busy : (w : Windows) (starts : List ℕ) → Fit w starts → (i : ℕ) → i < w.count → Busy (plan_row w starts) (at starts i)
own_busy w starts fit i l e = omega (arith, row_at_own w.count (at starts) i l fit.proper.apart)

pub ledger_outer : LedgerOuter
ledger_outer day w starts ledger promised code =
    give (accepted day w starts promised.answer code)
    (λ good.
    give (fit day w starts promised.answer code)
    (λ fits.
    record {
      no_jobs = λ none.
          give (no_jobs (asleep day.power) day.slots (plan_row w starts) ledger.counts
          (λ u l. not_busy (plan_row w starts) u (λ busy. omega (arith, (starter w starts u busy).below)))
          (promised.accepted code))
          (λ all. rw (all.0, all.1.0, all.1.1.0, all.1.1.1.0, all.1.1.1.1));
      before = λ i first.
          before_first_job (at starts i) (promised.accepted code)
          (record {
            within = omega (arith, fit_below good.rows fits i first.0);
            fault = λ l. own_busy w starts fits i first.0;
            lowest = λ u l busy.
                give (starter w starts u busy) (λ k. omega (arith, k.at, first.1 k.row k.below));
          });
      after = λ i last.
          after_last_job (at starts i) (promised.accepted code) (fit_below good.rows fits i last.0)
          (own_busy w starts fits i last.0)
          (λ u h l.
          not_busy (plan_row w starts) u
          (λ busy. give (starter w starts u busy) (λ k. omega (arith, k.at, last.1 k.row k.below))))
          ∙ omega arith;
    }))

pub row_shown : RowShown
row_shown day w starts asked shown promised code i l here =
    give (accepted day w starts promised.answer code)
    (λ good.
    give (fit day w starts promised.answer code)
    (λ fits.
    rw (
      promised.slot code,
      fills_unique (omega (arith, fit_below good.rows fits i l)) (promised.fill code)
          (rw here at (row_fills (asleep day.power) day.slots w starts fits i l)),
    )))
