-- `claim::price` meets its contract. Assumes nothing.
use mathlib.Core.Path.{refl}
use Rattle.checks.proofs.Refusal.{then_group}
use Rattle.checks.proofs.Refused.{then_ok}
use Rattle.checks.proofs.Check.{list_is_check}
use Rattle.claim.proofs.Claim.{passed_accepted}
use Rattle.claim.proofs.price.Goals as goal

pub price_starts-requires : goal.price_starts-requires
price_starts-requires c = passed_accepted _ c.in_ok-check_list.ensures refl

pub returns : goal.returns
returns c = then_group _ (then_ok list_is_check c.in_ok-check_list.ensures _ c.price_starts.ensures)
