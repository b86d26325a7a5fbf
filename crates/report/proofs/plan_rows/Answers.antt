-- `report::plan_rows` meets its contract. Assumes nothing.
use mathlib.Core.Path.{refl}
use native.Mathlib.Omega.{arith}
use Rattle.checks.proofs.Refused.{refused_not_done, given_back}
use Rattle.report.proofs.File.{found_accepted, found_counted, found_reported, refused_reported}
use Rattle.report.proofs.plan_rows.Goals as goal

pub returns-in_err-cost : goal.returns-in_err-cost
returns-in_err-cost c =
    rw (given_back c.from_residual.result c.from_residual.ensures.1)
    (refused_reported c.in_err-cost.ensures (refused_not_done _))

pub returns-in_err-counts : goal.returns-in_err-counts
returns-in_err-counts c = absurd (found_counted c.in_ok-cost.ensures refl _ c.in_err-counts.ensures)

pub overflow_cast-result : goal.overflow_cast-result
overflow_cast-result c = omega (arith, (found_accepted c.in_ok-cost.ensures refl).rows.count)

pub returns : goal.returns
returns c = found_reported c.in_ok-cost.ensures refl c.in_ok-counts.ensures refl
