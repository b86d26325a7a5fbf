-- What the entry point answers: where a check of the list refuses, where there is a plan, and where a span is shown. Assumes nothing.
use Prim.Native.Nat.{ℕ}
use mathlib.Core.Path.{◌≡◌, refl}
use native.Mathlib.Omega.{arith}
use Rattle.day.specs.Windows.{Windows}
use Rattle.checks.specs.declared.Answer.{Answer}
use Rattle.day.specs.Plan.{SomePlan}
use Rattle.checks.specs.Answer.{says, done, plan_exists}
use Rattle.checks.specs.Refusal.{◌then◌, stops, goes_on, Passed}
use Rattle.checks.proofs.Refusal.{code_of, then_group, then_refused, past}
use Rattle.crowd.specs.declared.CrowdedSpan.{CrowdedSpan}
use Rattle.crowd.specs.Crowded.{SpanShown}
use Rattle.crowd.specs.Promise.{no_span, Crowds}
use Rattle.crowd.proofs.Exactly.{crowded_no_plan}

module _ {Check : Answer → Type 0} {slots : ℕ} {w : Windows} where
  pub answer_refused : (a : Answer) → (Check then Passed) a → (a.code ≡ done → ⊥) → Crowds Check slots w (record { answer = a; span = no_span })
  answer_refused a p h =
      record { answer = then_group a (then_refused a p h); shown = λ e. absurd (h e); refused = λ _. refl }

  module _ (clear : (b : Answer) → Check b → ⊥) where
    pub answer_plan_exists : (a : Answer) → a ≡ says plan_exists 0 0 → SomePlan w → Crowds Check slots w (record { answer = a; span = no_span })
    answer_plan_exists a e plan =
        record {
          answer = stops (goes_on clear (record { fault = plan; says = e }));
          shown = λ d. absurd (omega (arith, d, code_of e));
          refused = λ _. refl;
        }

    pub answer_shown : (a : Answer) (span : CrowdedSpan) → Passed a → SpanShown slots w span → Crowds Check slots w (record { answer = a; span = span })
    answer_shown a span p s =
        record {
          answer = then_group a (goes_on clear (past (λ plan. crowded_no_plan slots w span s.among plan.0 plan.1) p));
          shown = λ _. s;
          refused = λ h. absurd (h (rw p refl));
        }
