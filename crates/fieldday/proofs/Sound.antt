-- A day is sound exactly if judging has nothing to refuse. Assumes nothing.
use mathlib.Core.Path.{◌≡◌}
use native.Mathlib.Omega.{arith}
use Rattle.day.proofs.Cases.{on_le}
use Rattle.checks.specs.declared.Answer.{Answer}
use Rattle.checks.specs.declared.outcome.Refusal.{Refusal}
use Rattle.checks.specs.Answer.{done, refused}
use Rattle.checks.specs.Refusal.{◌then◌}
use Rattle.checks.proofs.Refusal.{code_of, then_stopped, then_clear, passed_clear, clear_first, clear_next, no_fault}
use Rattle.checks.proofs.Check.{accepted_clear, clear_accepted}
use Rattle.checks.proofs.Refused.{refused_not_done}
use Rattle.claim.specs.Claim.{Costs}
use Rattle.claim.proofs.Claim.{clear_fit, fit_clear}
use Rattle.fieldday.specs.declared.FieldDay.{FieldDay}
use Rattle.fieldday.specs.Held.{list_held, HeldCheck}
use Rattle.fieldday.specs.steps.Sound.{Sound}
use Rattle.fieldday.proofs.Checks.{held_is_check}

pub sound_clear : {f : FieldDay} → Sound f → (b : Answer) → HeldCheck f b → ⊥
sound_clear {f} s =
    then_clear (then_clear (accepted_clear s.accepted) (fit_clear (list_held f) f.starts s.fit))
    (λ b r. omega (arith, r.fault, s.slot))

pub clear_sound : {f : FieldDay} → ((b : Answer) → HeldCheck f b → ⊥) → Sound f
clear_sound {f} clear =
    record {
      accepted = clear_accepted (clear_first (clear_first clear));
      fit = clear_fit (list_held f) f.starts (clear_next (clear_first clear));
      slot = on_le f.slot f.day.slots (λ h. h) (λ h. absurd (no_fault (clear_next clear) h));
    }

-- a day that was judged and not refused
pub judged_sound : {Next : Answer → Type 0} (f : FieldDay) (a : Answer) → (HeldCheck f then Next) a → a.code ≡ done → Sound f
judged_sound f a p e = clear_sound (passed_clear (held_is_check f) a p e)

-- a day that judging refused
pub judged_refused : (f : FieldDay) (r : Refusal) → (HeldCheck f then Costs f.day (list_held f) f.starts) (refused r) → HeldCheck f (refused r)
judged_refused f r p = then_stopped (λ b q. code_of q) (refused r) p (refused_not_done r)
