use mathlib.Core.Path.{refl}
use Rattle.checks.proofs.Refused.{refused_not_done, given_back}
use Rattle.claim.specs.Claim.{Fit}
use Rattle.claim.proofs.Claim.{passed_fit}
use Rattle.fieldday.specs.Held.{cut_held}
use Rattle.fieldday.specs.steps.Sound.{Sound}
use Rattle.fieldday.proofs.Sound.{judged_sound}
use Rattle.fieldday.proofs.Offered.{offer_refused, offer_unfit, offer_taken, offer_left}
use Rattle.fieldday.proofs.FieldDay.offered.Goals as goal

pub returns-in_err-own : goal.returns-in_err-own
returns-in_err-own c =
    rw (given_back c.from_residual.result c.from_residual.ensures.1)
    (offer_refused _ _ _ c.in_err-own.ensures (refused_not_done _))

pub price_cut-requires : goal.price_cut-requires
price_cut-requires c = judged_sound _ _ c.in_ok-own.ensures refl

pub returns-in_err-offered : goal.returns-in_err-offered
returns-in_err-offered c =
    rw (given_back c.from_residual-in_err-offered.result c.from_residual-in_err-offered.ensures.1)
    (offer_unfit _ _ _ c.in_ok-own.ensures refl _ c.in_err-offered.ensures (refused_not_done _))

pub held_at-requires : goal.held_at-requires
held_at-requires c =
    let day : Sound c.args.self.now = judged_sound _ _ c.in_ok-own.ensures refl in
    let fit : Fit (cut_held c.args.self.now) c.args.server.now = passed_fit _ _ _ c.in_ok-offered.ensures refl in
    (day.accepted.rows.count, fit.long)

pub returns-then-offered-own : goal.returns-then-offered-own
returns-then-offered-own c =
    offer_taken _ _ _ c.in_ok-own.ensures refl _ c.in_ok-offered.ensures refl _ c.if-offered-own.true c.held_at.ensures

pub held_at-requires-2 : goal.held_at-requires-2
held_at-requires-2 c =
    let day : Sound c.args.self.now = judged_sound _ _ c.in_ok-own.ensures refl in
    (day.accepted.rows.count, day.fit.long)

pub returns : goal.returns
returns c =
    offer_left _ _ _ c.in_ok-own.ensures refl _ c.in_ok-offered.ensures refl _ _ c.if-offered-own.false refl c.held_at-2.ensures
