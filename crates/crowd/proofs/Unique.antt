-- Two outcomes that keep a promise are equal. Assumes nothing.
use Prim.Native.Nat.{ℕ}
use mathlib.Core.Path.{◌≡◌, sym, ◌∙◌}
use native.Mathlib.Omega.{arith}
use Rattle.day.specs.Windows.{Windows}
use Rattle.day.proofs.Cases.{on_eq}
use Rattle.day.proofs.Count.{count_unique}
use Rattle.checks.specs.declared.Answer.{Answer}
use Rattle.checks.specs.Answer.{done}
use Rattle.checks.proofs.Refusal.{IsCheck, refuses_is_check, then_is_check, passed_unique}
use Rattle.checks.proofs.Check.{times_is_check}
use Rattle.crowd.specs.declared.CrowdedSpan.{CrowdedSpan}
use Rattle.crowd.specs.declared.CrowdAnswer.{CrowdAnswer}
use Rattle.crowd.specs.Crowded.{slots_of, SpanShown}
use Rattle.crowd.specs.Promise.{CrowdCheck, Crowds, CrowdPromise}

pub shown_span_unique : {slots : ℕ} {w : Windows} (s t : CrowdedSpan) → SpanShown slots w s → SpanShown slots w t → s ≡ t
shown_span_unique {slots} {w} s t S T = rw (same_begin, same_end, same_jobs)
  where
    same_length : slots_of s ≡ slots_of t
    same_length = omega (arith, S.no_shorter t T.among, T.no_shorter s S.among)

    same_begin : s.begin ≡ t.begin
    same_begin = omega (arith, S.no_earlier t T.among (sym same_length), T.no_earlier s S.among same_length)

    same_end : s.end ≡ t.end
    same_end = omega (arith, same_length, same_begin, S.among.some, T.among.some)

    same_jobs : s.jobs ≡ t.jobs
    same_jobs = count_unique (rw (same_begin, same_end) at S.among.counted) T.among.counted

pub crowd_is_check : {Check : Answer → Type 0} (w : Windows) → IsCheck Check → IsCheck (CrowdCheck Check w)
crowd_is_check w check = then_is_check check (refuses_is_check (λ e. omega arith))

pub crowds_unique : {Check : Answer → Type 0} → IsCheck Check → (slots : ℕ) (w : Windows) (a b : CrowdAnswer) → Crowds Check slots w a → Crowds Check slots w b
    → a ≡ b
crowds_unique check slots w a b p q = rw (same_answer, same_span)
  where
    same_answer : a.answer ≡ b.answer
    same_answer = passed_unique (crowd_is_check w check) a.answer b.answer p.answer q.answer

    same_span : a.span ≡ b.span
    same_span =
        on_eq a.answer.code done (λ e. shown_span_unique a.span b.span (p.shown e) (q.shown (rw same_answer at e)))
        (λ e. p.refused e ∙ sym (q.refused (rw same_answer at e)))

pub crowd_unique : (slots : ℕ) (w : Windows) (a b : CrowdAnswer) → CrowdPromise slots w a → CrowdPromise slots w b → a ≡ b
crowd_unique slots w = crowds_unique times_is_check slots w
