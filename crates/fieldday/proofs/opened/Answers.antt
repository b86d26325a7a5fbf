use mathlib.Core.Path.{refl}
use native.Mathlib.Omega.{arith}
use Rattle.day.specs.Windows.{Windows, windows}
use Rattle.checks.specs.declared.Answer.{Answer}
use Rattle.checks.specs.Check.{ListCheck, Accepted}
use Rattle.checks.proofs.Refusal.{passed_clear, clear_first, clear_next}
use Rattle.checks.proofs.Check.{list_is_check, clear_accepted, good_rows_deadlines}
use Rattle.checks.proofs.Refused.{refused_not_done, given_back}
use Rattle.claim.specs.Claim.{ClaimCheck}
use Rattle.claim.proofs.Claim.{claim_is_check, clear_fit}
use Rattle.fieldday.proofs.opened.Goals as goal
use Rattle.fieldday.proofs.opened.Goals.{In_ok-cost}

pub returns-in_err-cost : goal.returns-in_err-cost
returns-in_err-cost c =
    rw (given_back c.from_residual.result c.from_residual.ensures.1)
    record { answer = c.in_err-cost.ensures; opened = λ e. absurd (refused_not_done _ e); refused = λ e. refl }

-- pricing refuses nothing
module _ (c : In_ok-cost) where
  abbrev w : Windows
  w = windows c.args.releases.now c.args.deadlines.now

  clear : (b : Answer) → ClaimCheck (ListCheck c.args.day w) w c.args.starts.now b → ⊥
  clear = passed_clear (claim_is_check list_is_check w c.args.starts.now) _ c.in_ok-cost.ensures refl

  accepted : Accepted c.args.day w
  accepted = clear_accepted (clear_first clear)

pub overflow_cast-releases : goal.overflow_cast-releases
overflow_cast-releases c = record { fits = omega (arith, (accepted (goal.at.overflow_cast-releases c).In_ok-cost).rows.count) }

pub of_rows-held-requires : goal.of_rows-held-requires
of_rows-held-requires c =
    let priced = (goal.at.of_rows-held-requires c).In_ok-cost in (
      (accepted priced).rows.count,
      omega arith,
      good_rows_deadlines c.args.releases.now c.args.deadlines.now (accepted priced).rows,
      (clear_fit (w priced) c.args.starts.now (clear_next (clear priced))).long,
    )
