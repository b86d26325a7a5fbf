-- `claim::judge` meets its contract. Assumes nothing.
use mathlib.Core.Path.{refl}
use Rattle.day.proofs.Cases.{give}
use Rattle.checks.proofs.Refusal.{then_group}
use Rattle.checks.proofs.Refused.{then_err, then_ok, given_back}
use Rattle.checks.proofs.Check.{list_is_check, good_rows_longer}
use Rattle.claim.proofs.Claim.{passed_accepted, refused_rows}
use Rattle.claim.proofs.judge.Goals as goal

pub returns-in_err-check_list : goal.returns-in_err-check_list
returns-in_err-check_list c =
    rw (given_back c.from_residual.result c.from_residual.ensures.1)
    record { answer = then_group _ (then_err _ c.in_err-check_list.ensures); rows = refused_rows _ _ _ }

pub judge_starts-requires : goal.judge_starts-requires
judge_starts-requires c =
    give (passed_accepted _ c.in_ok-check_list.ensures refl) (λ accepted. good_rows_longer accepted.slots accepted.rows)

pub returns : goal.returns
returns c = record {
  answer = then_group _ (then_ok list_is_check c.in_ok-check_list.ensures _ c.judge_starts.ensures.answer);
  rows = c.judge_starts.ensures.rows;
}
