-- `report::plan_input` meets its contract. Assumes nothing.
use mathlib.Core.Path.{refl}
use native.Mathlib.Omega.{arith}
use Rattle.checks.specs.Refusal.{stops}
use Rattle.report.proofs.File.{check_reported, checked_reported}
use Rattle.report.proofs.plan_input.Goals as goal

pub returns-then-file-gt-MOST_BYTES : goal.returns-then-file-gt-MOST_BYTES
returns-then-file-gt-MOST_BYTES c =
    check_reported _ (stops (record { fault = c.if-file-gt-MOST_BYTES.true; says = refl })) (λ e. omega arith) (λ e. omega arith)

pub returns : goal.returns
returns c = checked_reported (λ b r. omega (arith, r.fault)) c.plan_file.ensures
