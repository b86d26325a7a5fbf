-- `filewriter::check_room` meets its contract. Assumes nothing.
use mathlib.Core.Path.{refl}
use native.Mathlib.Omega.{arith}
use Rattle.checks.specs.Refusal.{goes_on}
use Rattle.checks.proofs.Refusal.{then_clear}
use Rattle.filewriter.proofs.check_room.Goals as goal

pub returns-clause-refuses : goal.returns-clause-refuses
returns-clause-refuses c = goes_on (then_clear (λ b r. omega (arith, r.fault)) (λ b r. omega (arith, r.fault))) refl
