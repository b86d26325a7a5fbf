-- `claim::price_starts` meets its contract. Assumes nothing.
use Prim.Native.Nat.{ℕ}
use mathlib.Core.Path.{refl, ◌∙◌, ap}
use Rattle.day.specs.Windows.{windows}
use Rattle.checks.specs.Answer.{says, done}
use Rattle.checks.proofs.Refused.{then_ok}
use Rattle.claim.proofs.Claim.{starts_is_check}
use Rattle.claim.proofs.Paying.{rows_cost_day}
use Rattle.claim.proofs.price_starts.Goals as goal

pub returns : goal.returns
returns c =
    then_ok (starts_is_check (windows c.args.releases.now c.args.deadlines.now) c.args.starts.now) c.in_ok-rows.ensures.answer _
    (ap (λ (x : ℕ). says done x 0)
    (c.cost.ensures
    ∙ rows_cost_day c.args.day c.from-slots.ensures c.requires.slots (c.in_ok-rows.ensures.rows.accepted refl)))
