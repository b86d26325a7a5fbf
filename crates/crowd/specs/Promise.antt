-- What the search for a crowded span promises.
use Rattle.std.specs.Prelude.{ℕ, ◌≡◌, Result, Ok, Err}
use Rattle.checks.specs.declared.Answer.{Answer}
use Rattle.day.specs.Windows.{Windows}
use Rattle.day.specs.Plan.{SomePlan}
use Rattle.checks.specs.declared.outcome.Refusal.{Refusal}
use Rattle.checks.specs.Answer.{says, done, plan_exists, refused}
use Rattle.checks.specs.Refusal.{◌then◌, Passed, Refuses}
use Rattle.checks.specs.Check.{TimesCheck}
use Rattle.crowd.specs.declared.CrowdedSpan.{CrowdedSpan}
use Rattle.crowd.specs.declared.CrowdAnswer.{CrowdAnswer}
use Rattle.crowd.specs.Crowded.{SpanShown}

-- what is checked of the list, and 21
abbrev pub CrowdCheck : (Answer → Type 0) → Windows → Answer → Type 0
CrowdCheck Check w = Check then Refuses plan_exists (SomePlan w)

-- what is shown under a refusal
abbrev pub no_span : CrowdedSpan
no_span = record { begin = 0; end = 0; jobs = 0 }

-- what an outcome is as an answer
abbrev pub answered_span : Result CrowdedSpan Refusal → CrowdAnswer
answered_span (Ok span) = record { answer = says done 0 0; span = span }
answered_span (Err refusal) = record { answer = refused refusal; span = no_span }

-- a crowded span, for any check of the list
pub record Crowds (Check : Answer → Type 0) (slots : ℕ) (w : Windows) (answered : CrowdAnswer) : Type 0 where
  pub answer : (CrowdCheck Check w then Passed) answered.answer
  pub shown : answered.answer.code ≡ done → SpanShown slots w answered.span
  pub refused : (answered.answer.code ≡ done → ⊥) → answered.span ≡ no_span

-- what `crowded_span` promises: codes 1, 3 and 4 for the list
abbrev pub CrowdPromise : ℕ → Windows → CrowdAnswer → Type 0
CrowdPromise slots w = Crowds (TimesCheck slots w) slots w
