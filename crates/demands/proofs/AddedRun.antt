-- An addition is a run of the planner on the cut list with the new row last. Assumes nothing.
use Prim.Native.Nat.{ℕ, zero, suc, ◌+◌, ◌<◌}
use mathlib.Core.Path.{◌≡◌, refl, sym, ap, subst}
use mathlib.Core.List.{List, [], ◌∷◌}
use native.Mathlib.Omega.{arith}
use lib.ListN.{length}
use Rattle.day.specs.Windows.{at, SameRows}
use Rattle.day.proofs.Cases.{give}
use Rattle.checks.specs.declared.Answer.{Answer}
use Rattle.checks.specs.Answer.{says, done}
use Rattle.checks.specs.Refusal.{goes_on}
use Rattle.checks.specs.Planned.{Planned}
use Rattle.checks.proofs.Refusal.{then_next, clear_first, clear_next}
use Rattle.checks.proofs.Check.{accepted_cong}
use Rattle.checks.proofs.Planned.{planned_by, planned_cong}
use Rattle.planner.specs.Table.{need}
use Rattle.planner.specs.Promise.{PlanCheck}
use Rattle.planner.proofs.Promise.{enough_starts}
use Rattle.fieldday.specs.declared.FieldDay.{FieldDay}
use Rattle.fieldday.specs.declared.FieldAnswer.{FieldAnswer}
use Rattle.fieldday.specs.Held.{held_with, cut_with}
use Rattle.fieldday.specs.Promise.{AddCheck, AddPromise}
use Rattle.fieldday.specs.steps.NewRow.{NewRowFits}
use Rattle.fieldday.proofs.Sound.{clear_sound}
use Rattle.fieldday.proofs.CutList.{cut_with_accepted}
use Rattle.fieldday.proofs.Added.{add_fits}
use Rattle.demands.specs.Run.{Run, list, Promised, Admitted}
use Rattle.demands.specs.FieldDay.{AddIsRun}
use Rattle.demands.proofs.BestPlan.{admitted_clear}
use Rattle.demands.proofs.Added.{held_start}

-- the first n numbers of a function
listed : ℕ → (ℕ → ℕ) → List ℕ
listed zero g = []
listed (suc n) g = g 0 ∷ listed n (λ i. g (suc i))

listed_long : (n : ℕ) (g : ℕ → ℕ) → length (listed n g) ≡ n
unfolding listed
listed_long zero g = refl
listed_long (suc n) g = ap suc (listed_long n (λ i. g (suc i)))

listed_at : (n : ℕ) (g : ℕ → ℕ) (i : ℕ) → i < n → at (listed n g) i ≡ g i
unfolding listed
listed_at zero g i l = absurd (omega arith)
listed_at (suc n) g zero l = refl
listed_at (suc n) g (suc i) l = listed_at n (λ i. g (suc i)) i (omega arith)

module _ (f : FieldDay) (release deadline : ℕ) (table : List ℕ) (r : FieldAnswer) (table_after : List ℕ)
    (p : AddPromise f release deadline table r table_after) where
  abbrev run : Run
  run =
      record {
        day = f.day;
        releases = listed (f.count + 1) (cut_with f release deadline).release;
        deadlines = listed (f.count + 1) (cut_with f release deadline).deadline;
        starts = f.starts;
        table = table;
        answer = r.answer;
        starts_after = p.starts_after;
        table_after = table_after;
      }

  same : SameRows (cut_with f release deadline) (list run)
  same =
      record {
        count = listed_long (f.count + 1) (cut_with f release deadline).release;
        release = λ i l. sym (listed_at (f.count + 1) (cut_with f release deadline).release i l);
        deadline = λ i l. sym (listed_at (f.count + 1) (cut_with f release deadline).deadline i l);
      }

  module _ (clear : (b : Answer) → AddCheck f release deadline table b → ⊥) (left : f.slot < deadline) where
    fits : NewRowFits f release deadline table
    fits = add_fits f release deadline table (says done 0 0) (goes_on clear refl) refl

    admitted : Admitted run
    admitted =
        record {
          accepted =
              accepted_cong same
              (cut_with_accepted (clear_sound (clear_first clear)) fits left);
          room = omega (arith, same.count, enough_starts f.day (held_with f release deadline) f.starts table (clear_next clear));
          table = rw same.count fits.room;
        }

    promised : Promised run
    promised =
        give (planned_cong same p.planned)
        (λ there.
        subst
        (λ n.
        Planned (PlanCheck f.day (list run) f.starts table) (need f.day.slots n) f.day (list run) f.starts table r.answer
        p.starts_after table_after)
        (sym same.count)
        (planned_by (PlanCheck f.day (list run) f.starts table) (need f.day.slots (f.count + 1)) f.day (list run) f.starts table
        (goes_on (admitted_clear run admitted) (then_next clear r.answer there.answer)) there))

pub add_is_run : AddIsRun
add_is_run f release deadline table r table_after p clear left =
    record {
      run = run f release deadline table r table_after p;
      served =
          record {
            promised = promised f release deadline table r table_after p clear left;
            admitted = admitted f release deadline table r table_after p clear left;
          };
      day = refl;
      rows = same f release deadline table r table_after p;
      answer = refl;
      starts = λ e i l. sym (held_start p e i l);
      lent = refl;
      lent_after = refl;
    }
