-- `checks::check_power` meets its contract. Assumes nothing.
use Rattle.std.proofs.Common.{refl, arith}
use Rattle.checks.specs.Refusal.{stops}
use Rattle.checks.proofs.Refusal.{past}
use Rattle.checks.proofs.check_power.Goals as goal

pub returns-then-power-gt-MOST_WAKE : goal.returns-then-power-gt-MOST_WAKE
returns-then-power-gt-MOST_WAKE c = stops (record { fault = omega arith; says = refl })

pub returns : goal.returns
returns c = past (λ h. omega arith) refl
