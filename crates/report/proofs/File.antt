-- Laws of planning a file: what each way of answering gives. Assumes nothing.
use Rattle.std.specs.Prelude.{Err}
use Prim.Native.Nat.{ℕ, ◌≤◌, min}
use mathlib.Core.Path.{◌≡◌, refl}
use mathlib.Core.List.{List}
use native.Mathlib.Omega.{arith}
use lib.ListN.{length, take}
use Rattle.checks.specs.declared.Answer.{Answer}
use Rattle.day.specs.declared.Day.{Day}
use Rattle.day.specs.Windows.{Windows, windows}
use Rattle.checks.specs.declared.outcome.Refusal.{Refusal}
use Rattle.checks.specs.Answer.{done, no_plan, refused}
use Rattle.checks.specs.Refusal.{◌then◌, stops, goes_on, Passed}
use Rattle.checks.specs.Check.{Accepted, ListCheck, most_jobs}
use Rattle.checks.specs.Planned.{Planned}
use Rattle.checks.proofs.Refusal.{code_of, Avoids, refuses_avoids, passed_avoids, then_avoids, then_clear, then_group, then_next, then_refused, passed_clear}
use Rattle.checks.proofs.Refused.{refused_not_done}
use Rattle.checks.proofs.Check.{accepted_clear}
use Rattle.checks.proofs.Planned.{planned_refused, planned_by, best_held}
use Rattle.dayfile.specs.declared.reader.Reading.{Reading}
use Rattle.dayfile.specs.Format.{count_in}
use Rattle.dayfile.specs.Reader.{FileCheck, ReadPromise}
use Rattle.dayfile.proofs.Accepted.{file_is_check, good_file}
use Rattle.dayfile.proofs.RowsRead.{day_read, releases_read, deadlines_read}
use Rattle.claim.specs.Claim.{ClaimCheck}
use Rattle.claim.proofs.Claim.{fit_clear}
use Rattle.planner.specs.Promise.{PlanCheck}
use Rattle.planner.proofs.Promise.{plan_is_check, list_accepted, enough_starts}
use Rattle.ledger.specs.declared.LedgerAnswer.{LedgerAnswer}
use Rattle.ledger.specs.Promise.{ledger_answer, LedgerPromise}
use Rattle.report.specs.Outcome.{Outcome}
use Rattle.report.specs.File.{no_outcome, Reported, FilePromise}
use Rattle.report.specs.steps.Rows.{RowsReported}

-- a plan that was found: its list is accepted, and the ledger has nothing to refuse
module _ {day : Day} {w : Windows} {starts table p t : List ℕ} {need : ℕ} {a : Answer}
    (A : Planned (PlanCheck day w starts table) need day w starts table a p t) (e : a.code ≡ done) where
  found_clear : (b : Answer) → PlanCheck day w starts table b → ⊥
  found_clear = passed_clear (plan_is_check day w starts table) a A.answer e

  pub found_accepted : Accepted day w
  found_accepted = list_accepted day w starts table found_clear

  found_long : w.count ≤ length p
  found_long = omega (arith, (A.planned e).filled.long, enough_starts day w starts table found_clear)

  found_claim_clear : (b : Answer) → ClaimCheck (ListCheck day w) w p b → ⊥
  found_claim_clear =
      then_clear (accepted_clear found_accepted)
      (fit_clear w p (record { long = found_long; proper = (best_held (A.planned e)).proper }))

  -- with its ledger it is what is promised
  pub found_reported : {answered : LedgerAnswer} {count : ℕ} → LedgerPromise day w p answered → count ≡ w.count
      → Reported (PlanCheck day w starts table) (ListCheck day w) need day w starts table (record { answer = a; count = count; counts = answered.counts }) p t
  found_reported {answered} L same =
      record {
        plan = A;
        count = λ d. same;
        counts = λ d. rw (then_next found_claim_clear answered.answer L.answer) at L;
        refused = λ h. absurd (h e);
      }

  -- and the ledger does not refuse it
  pub found_counted : (refusal : Refusal) → LedgerPromise day w p (ledger_answer (Err refusal)) → ⊥
  found_counted refusal L = refused_not_done refusal (code_of (then_next found_claim_clear (refused refusal) L.answer))

module _ {Check CheckOfList : Answer → Type 0} {need : ℕ} {day : Day} {w : Windows} {starts table : List ℕ} where
  -- where nothing was planned, the outcome says no more than the answer
  pub refused_reported : {p t : List ℕ} {a : Answer} → Planned Check need day w starts table a p t → (a.code ≡ done → ⊥)
      → Reported Check CheckOfList need day w starts table (no_outcome a) p t
  refused_reported A h = record { plan = A; count = λ e. absurd (h e); counts = λ e. absurd (h e); refused = λ e. refl }

  -- a check that refuses leaves starts and table as they were
  pub check_reported : (a : Answer) → Check a → (a.code ≡ done → ⊥) → (a.code ≡ no_plan → ⊥)
      → Reported Check CheckOfList need day w starts table (no_outcome a) starts table
  check_reported a p not_done not-no-plan =
      refused_reported (planned_refused Check need day w starts table a (stops p) not_done not-no-plan) not_done

  -- a check that has nothing to refuse may stand before the others
  pub checked_reported : {Before : Answer → Type 0} {p t : List ℕ} {o : Outcome} → ((b : Answer) → Before b → ⊥)
      → Reported Check CheckOfList need day w starts table o p t → Reported (Before then Check) CheckOfList need day w starts table o p t
  checked_reported {o = o} clear R =
      record {
        plan = planned_by _ _ _ _ _ _ (then_group o.answer (goes_on clear R.plan.answer)) R.plan;
        count = R.count;
        counts = R.counts;
        refused = R.refused;
      }

-- the reader never answers that there is no plan
reader_avoids_no_plan : (file : List ℕ) (room : ℕ) → Avoids no_plan (FileCheck file room then Passed)
reader_avoids_no_plan file room =
    then_avoids
    (then_avoids (refuses_avoids (λ e. omega arith))
    (then_avoids (refuses_avoids (λ e. omega arith))
    (then_avoids (refuses_avoids (λ e. omega arith))
    (then_avoids (refuses_avoids (λ e. omega arith))
    (then_avoids (refuses_avoids (λ e. omega arith)) (refuses_avoids (λ e. omega arith)))))))
    (passed_avoids (λ e. omega arith))

pub file_not_read : (file starts table : List ℕ) (a : Answer) → (FileCheck file most_jobs then Passed) a → (a.code ≡ done → ⊥)
    → FilePromise file starts table (no_outcome a) starts table
file_not_read file starts table a p h = check_reported a (then_refused a p h) h (reader_avoids_no_plan file most_jobs a p)

-- what was read, for a reader with 40 places in each list
module _ {file xs ys xs-after ys-after : List ℕ} {r : Reading} (R : ReadPromise file xs ys r xs-after ys-after) (e : r.answer.code ≡ done)
    (x : length xs ≡ most_jobs) (y : length ys ≡ most_jobs) where
  read_check : (FileCheck file most_jobs then Passed) r.answer
  read_check = let room : min (length xs) (length ys) ≡ most_jobs = omega arith in rw room at R.answer

  read_few : count_in file ≤ most_jobs
  read_few = (good_file e read_check).enough

  -- there are as many places as rows were read
  pub read_room : (count : ℕ) → count ≡ r.count → (count ≤ length xs-after) × (count ≤ length ys-after)
  read_room count same =
      let few : count ≤ most_jobs = omega (arith, (R.accepted e).count, read_few) in
      (omega (arith, (R.accepted e).first_releases.long), omega (arith, (R.accepted e).first_deadlines.long))

  -- and the rows are planned
  pub read_reported : {starts table p t : List ℕ} {o : Outcome} (count : ℕ) → count ≡ r.count
      → RowsReported r.day (windows (take count xs-after) (take count ys-after)) starts table o p t → FilePromise file starts table o p t
  read_reported count same P =
      let given = R.accepted e in
      let releases = releases_read given (omega (arith, read_few)) in
      let deadlines = deadlines_read given (omega (arith, read_few)) in
      checked_reported (passed_clear (file_is_check file most_jobs) r.answer read_check e) (rw (same, day_read given, releases, deadlines) at P)
