use mathlib.Core.Path.{refl}
use native.Mathlib.Omega.{arith}
use Rattle.checks.specs.Refusal.{stops, goes_on}
use Rattle.checks.proofs.Refusal.{then_group, past}
use Rattle.checks.proofs.Refused.{refused_not_done, given_back}
use Rattle.fieldday.proofs.Sound.{sound_clear, judged_sound, judged_refused}
use Rattle.fieldday.proofs.FieldDay.advanced.Goals as goal

pub returns-in_err-judge : goal.returns-in_err-judge
returns-in_err-judge c =
    rw (given_back c.from_residual.result c.from_residual.ensures.1)
    record {
      answer = stops (stops (judged_refused c.args.self.now _ c.in_err-judge.ensures));
      advanced = λ e. absurd (refused_not_done _ e);
      refused = λ e. refl;
    }

pub overflow_add-self : goal.overflow_add-self
overflow_add-self c =
    let day = judged_sound _ _ c.in_ok-judge.ensures refl in
    record { fits = omega (arith, day.slot, day.accepted.slots) }

pub held_at-requires : goal.held_at-requires
held_at-requires c = let day = judged_sound _ _ c.in_ok-judge.ensures refl in (day.accepted.rows.count, day.fit.long)

pub returns : goal.returns
returns c = record {
  answer =
      then_group _ (goes_on (sound_clear (judged_sound _ _ c.in_ok-judge.ensures refl))
      (past (λ h. omega arith) refl));
  advanced = λ e. c.held_at.ensures;
  refused = λ e. absurd (e refl);
}
