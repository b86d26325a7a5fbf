-- Two outcomes of planning a file are equal, and so are two texts, which show every row. Assumes nothing.
use Prim.Native.Nat.{ℕ, min}
use mathlib.Core.Path.{◌≡◌, sym, ◌∙◌, ap}
use mathlib.Core.List.{List}
use native.Mathlib.Omega.{arith}
use Rattle.checks.specs.declared.Answer.{Answer}
use Rattle.day.specs.declared.Day.{Day}
use Rattle.day.specs.Windows.{Windows}
use Rattle.checks.specs.Answer.{done}
use Rattle.checks.specs.Check.{most_jobs}
use Rattle.day.proofs.Cases.{on_eq}
use Rattle.checks.proofs.Refusal.{IsCheck, refuses_is_check, then_is_check, passed_clear, clear_next}
use Rattle.checks.proofs.Check.{list_is_check}
use Rattle.checks.proofs.Unique.{planned_unique}
use Rattle.dayfile.specs.Format.{file_day, file_windows}
use Rattle.dayfile.proofs.Accepted.{file_is_check}
use Rattle.planner.proofs.Promise.{plan_is_check, list_accepted}
use Rattle.ledger.specs.declared.Counts.{Counts}
use Rattle.ledger.specs.declared.LedgerAnswer.{LedgerAnswer}
use Rattle.ledger.proofs.Unique.{ledgered_unique}
use Rattle.text.specs.Lines.{lines}
use Rattle.text.proofs.Lines.{lines_refused}
use Rattle.text.specs.declared.Text.{Text}
use Rattle.text.proofs.Unique.{prints_unique}
use Rattle.report.specs.Outcome.{Outcome}
use Rattle.report.specs.File.{FilePlanCheck, InputPlanCheck, no_outcome, Reported, FilePromise, InputReported, ReportPromise}

reported_unique : {Check CheckOfList : Answer → Type 0} {need : ℕ} {day : Day} {w : Windows} {starts table p t q u : List ℕ} {o other : Outcome}
    → IsCheck Check → IsCheck CheckOfList
    → Reported Check CheckOfList need day w starts table o p t → Reported Check CheckOfList need day w starts table other q u
    → (o ≡ other) × (p ≡ q) × (t ≡ u)
reported_unique {Check} {need = need} {day} {w} {starts} {table} {p} {t} {q} {u} {o} {other} check check-of-list R S =
    let same : (o.answer ≡ other.answer) × (p ≡ q) × (t ≡ u) =
    planned_unique Check need day w starts table check o.answer other.answer p t q u R.plan S.plan
    in
    let outcome : o ≡ other =
    on_eq o.answer.code done
    (λ e.
    let d : other.answer.code ≡ done = rw same.0 at e in
    let counts : o.counts ≡ other.counts =
    ap (λ (l : LedgerAnswer). l.counts) (ledgered_unique check-of-list day w q _ _ (rw same.1 at (R.counts e)) (S.counts d))
    in
    rw (same.0, R.count e ∙ sym (S.count d), counts))
    (λ e. R.refused e ∙ ap no_outcome same.0 ∙ sym (S.refused (rw same.0 at e)))
    in
    (outcome, same.1, same.2)

module _ (file starts table : List ℕ) where
  file_plan_is_check : IsCheck (FilePlanCheck file starts table)
  file_plan_is_check = then_is_check (file_is_check file most_jobs) (plan_is_check (file_day file) (file_windows file) starts table)

  input_plan_is_check : IsCheck (InputPlanCheck file starts table)
  input_plan_is_check = then_is_check (refuses_is_check (λ e. omega arith)) file_plan_is_check

  pub file_unique : {p t q u : List ℕ} {o other : Outcome} → FilePromise file starts table o p t → FilePromise file starts table other q u
      → (o ≡ other) × (p ≡ q) × (t ≡ u)
  file_unique = reported_unique file_plan_is_check list_is_check

  input_unique : {p t q u : List ℕ} {o other : Outcome} → InputReported file starts table o p t → InputReported file starts table other q u
      → (o ≡ other) × (p ≡ q) × (t ≡ u)
  input_unique = reported_unique input_plan_is_check list_is_check

  -- at most 40 rows are planned, so that every row has its line
  pub all_rows_shown : {p t : List ℕ} {o : Outcome} → InputReported file starts table o p t → min o.count most_jobs ≡ o.count
  all_rows_shown {o = o} R =
      on_eq o.answer.code done
      (λ e.
      omega (
        arith,
        R.count e,
        (list_accepted (file_day file) (file_windows file) starts table
            (clear_next (clear_next (passed_clear input_plan_is_check o.answer R.plan.answer e)))).rows.count,
      ))
      (λ h. omega (arith, ap (λ (x : Outcome). x.count) (R.refused h)))

-- a refusal is shown alone, whatever the ledger beside it
pub refusal_shown : (answer : Answer) (count : ℕ) (start : ℕ → ℕ) (counts other : Counts) → (answer.code ≡ done → ⊥)
    → lines answer count start counts ≡ lines answer count start other
refusal_shown answer count start counts other h = lines_refused answer count start counts h ∙ sym (lines_refused answer count start other h)

pub report_unique : (file table : List ℕ) {t u : List ℕ} {text other : Text} → ReportPromise file table text t
    → ReportPromise file table other u → (text ≡ other) × (t ≡ u)
report_unique file table {text = text} {other = other} P Q =
    let same : (P.outcome ≡ Q.outcome) × (P.starts ≡ Q.starts) × (_ ≡ _) = input_unique file _ table P.reported Q.reported in
    (prints_unique _ text other P.prints (rw (same.0, same.1) Q.prints), same.2)
