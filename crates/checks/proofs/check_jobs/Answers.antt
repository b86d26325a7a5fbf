-- `checks::check_jobs` meets its contract. Assumes nothing.
use Rattle.std.proofs.Common.{refl, arith}
use Rattle.checks.specs.Refusal.{stops, goes_on}
use Rattle.checks.proofs.Refusal.{past, then_clear, none_clear, found_refused}
use Rattle.checks.proofs.check_jobs.Goals as goal

pub returns-then-releases-from : goal.returns-then-releases-from
returns-then-releases-from c = stops (stops (record { fault = omega arith; says = refl }))

pub returns-in-Some : goal.returns-in-Some
returns-in-Some c = stops (past (λ h. omega arith) (found_refused _ c.in-Some.ensures))

pub returns-in-None : goal.returns-in-None
returns-in-None c = goes_on (then_clear (λ b r. omega (arith, r.fault)) (none_clear c.in-None.ensures)) refl
