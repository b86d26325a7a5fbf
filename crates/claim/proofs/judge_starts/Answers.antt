-- `claim::judge_starts` meets its contract. Assumes nothing.
use mathlib.Core.Path.{refl, sym}
use native.Mathlib.Omega.{arith}
use lib.Seq.{length-take-le}
use Rattle.day.specs.Windows.{windows}
use Rattle.checks.proofs.Refused.{given_back}
use Rattle.claim.specs.Claim.{Fit}
use Rattle.claim.proofs.Rows.{rows_of_first}
use Rattle.claim.proofs.Claim.{passed_fit, fit_first_below, refused_rows}
use Rattle.claim.proofs.judge_starts.Goals as goal
use Rattle.claim.proofs.judge_starts.Goals.{In_ok-check_starts}

pub returns-in_err-check_starts : goal.returns-in_err-check_starts
returns-in_err-check_starts c =
    rw (given_back c.from_residual.result c.from_residual.ensures.1)
    record { answer = c.in_err-check_starts.ensures; rows = refused_rows _ _ _ }

-- what is not refused is fit
fit : (c : In_ok-check_starts) → Fit (windows c.args.releases.now c.args.deadlines.now) c.args.starts.now
fit c = passed_fit (windows c.args.releases.now c.args.deadlines.now) c.args.starts.now _ c.in_ok-check_starts.ensures refl

pub slice_bounds-rows_by_slot-end : goal.slice_bounds-rows_by_slot-end
slice_bounds-rows_by_slot-end c =
    sym (length-take-le _ _ (fit (goal.at.slice_bounds-rows_by_slot-end c).In_ok-check_starts).long)

pub rows_by_slot-requires : goal.rows_by_slot-requires
rows_by_slot-requires c =
    let proper = fit (goal.at.rows_by_slot-requires c).In_ok-check_starts in
    record {
      length_le_most_jobs = omega (arith, c.requires.count, length-take-le _ _ proper.long);
      by_index = fit_first_below c.requires proper;
    }

pub returns : goal.returns
returns c = record {
  answer = c.in_ok-check_starts.ensures;
  rows = record {
    accepted = λ e. rows_of_first _ _ (fit (goal.at.returns c).In_ok-check_starts).long c.rows_by_slot.ensures;
    refused = λ e. absurd (e refl);
  };
}
