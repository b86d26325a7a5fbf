-- The slot is judged after list and plan.
use mathlib.Core.Path.{refl}
use native.Mathlib.Omega.{arith}
use Rattle.checks.proofs.Refusal.{then_next, then_group, past, passed_clear}
use Rattle.checks.specs.Refusal.{goes_on}
use Rattle.checks.proofs.Check.{list_is_check}
use Rattle.claim.proofs.Claim.{claim_is_check}
use Rattle.fieldday.specs.Held.{list_held}
use Rattle.fieldday.proofs.FieldDay.judge.Goals as goal

pub returns : goal.returns
returns c =
    let f = c.args.self.now in
    let priced = c.in_ok-cost.ensures in
    let clear = passed_clear (claim_is_check list_is_check (list_held f) f.starts) _ priced refl in
    then_group _ (goes_on clear (past (λ h. omega arith) (then_next clear _ priced)))
