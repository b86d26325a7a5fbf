-- `claim::check::check_starts` meets its contract. Assumes nothing.
use native.Mathlib.Omega.{arith}
use Rattle.checks.specs.Refusal.{goes_on}
use Rattle.checks.proofs.Refusal.{past, none_clear, then_group}
use Rattle.claim.proofs.Claim.{apart_of_first}
use Rattle.claim.proofs.check.check_starts.Goals as goal

pub returns : goal.returns
returns c =
    then_group _ (past (λ h. omega arith) (then_group _ (goes_on (none_clear c.in_default.ensures) (apart_of_first _ _ _ (omega arith) c.check_apart.ensures))))
