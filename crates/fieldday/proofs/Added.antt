-- Laws of adding a row: what its checks let pass, and what it gives where they refuse, where there is no plan and where there is one. Assumes
-- nothing.
use Prim.Native.Nat.{ℕ, ◌+◌}
use mathlib.Core.Path.{◌≡◌, refl}
use mathlib.Core.List.{List, [], ◌∷◌, ◌++◌}
use native.Mathlib.Omega.{arith}
use lib.ListN.{take}
use Rattle.day.specs.Windows.{Windows}
use Rattle.day.proofs.Joined.{beside_last}
use Rattle.checks.specs.declared.Answer.{Answer}
use Rattle.checks.specs.Answer.{done}
use Rattle.checks.specs.Refusal.{◌then◌, Passed}
use Rattle.checks.specs.Check.{Accepted}
use Rattle.checks.specs.Planned.{Planned}
use Rattle.checks.specs.steps.Never.{Never}
use Rattle.checks.proofs.Refusal.{passed_avoids, then_avoids, then_refused, clear_first, clear_next, passed_clear}
use Rattle.checks.proofs.Planned.{planned_refused, planned_checked}
use Rattle.planner.specs.Table.{need}
use Rattle.planner.proofs.Promise.{list_accepted, enough_table}
use Rattle.fieldday.specs.declared.FieldDay.{FieldDay}
use Rattle.fieldday.specs.Held.{list_held, one_row, held_with, cut_with, day_of}
use Rattle.fieldday.specs.steps.Sound.{Sound}
use Rattle.fieldday.specs.Promise.{AddCheck, AddPromise}
use Rattle.fieldday.specs.steps.NewRow.{NewRowFits}
use Rattle.fieldday.proofs.Checks.{add_is_check, add_not_no_plan}
use Rattle.fieldday.proofs.Sound.{clear_sound}

module _ (f : FieldDay) (release deadline : ℕ) (table : List ℕ) where
  abbrev listed : Windows
  listed = held_with f release deadline

  abbrev Check : Answer → Type 0
  Check = AddCheck f release deadline table

  -- where the checks refuse, the day is as it was
  pub add_refused : (a : Answer) → (Check then Passed) a → (a.code ≡ done → ⊥) → AddPromise f release deadline table (record { answer = a; held = f }) table
  add_refused a p h =
      record {
        starts_after = f.starts;
        planned = planned_refused Check _ f.day (cut_with f release deadline) f.starts table a (then_refused {Check = Check} a p h) h (then_avoids (add_not_no_plan f release deadline table) (passed_avoids (λ e. omega arith)) a p);
        added = λ e. absurd (h e);
        refused = λ e. refl;
      }

  -- where they don't
  module _ (a : Answer) (p : (Check then Passed) a) (passed : a.code ≡ done) where
    clear : (b : Answer) → Check b → ⊥
    clear = passed_clear (add_is_check f release deadline table) a p passed

    pub add_sound : Sound f
    add_sound = clear_sound (clear_first clear)

    pub add_fits : NewRowFits f release deadline table
    add_fits =
        record {
          count = omega (arith, accepted.rows.count);
          window =
              omega (
                arith,
                accepted.rows.window f.count (omega arith),
                beside_last f.count (list_held f).release (one_row release deadline).release,
                beside_last f.count (list_held f).deadline (one_row release deadline).deadline,
              );
          in_day =
              omega (
                arith,
                accepted.rows.in_day f.count (omega arith),
                beside_last f.count (list_held f).deadline (one_row release deadline).deadline,
              );
          room = enough_table f.day listed f.starts table (clear_next clear);
        }
      where
        accepted : Accepted f.day listed
        accepted = list_accepted f.day listed f.starts table (clear_next clear)

    module _ (b : Answer) (starts table_after : List ℕ)
        (P : Planned Never (need f.day.slots (f.count + 1)) f.day (cut_with f release deadline) f.starts table b starts table_after) where
      planned : Planned Check (need f.day.slots (f.count + 1)) f.day (cut_with f release deadline) f.starts table b starts table_after
      planned = planned_checked Check _ f.day (cut_with f release deadline) f.starts table b starts table_after clear P

      pub add_unplanned : (b.code ≡ done → ⊥) → AddPromise f release deadline table (record { answer = b; held = f }) table_after
      add_unplanned h = record { starts_after = starts; planned = planned; added = λ e. absurd (h e); refused = λ e. refl }

      pub add_planned : (g : FieldDay) → b.code ≡ done
          → g ≡ day_of f.day f.slot (f.count + 1) (take f.count f.releases ++ release ∷ []) (take f.count f.deadlines ++ deadline ∷ []) starts
          → AddPromise f release deadline table (record { answer = b; held = g }) table_after
      add_planned g e same = record { starts_after = starts; planned = planned; added = λ h. same; refused = λ h. absurd (h e) }
