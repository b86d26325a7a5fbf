-- A row stays the same job: through every call it keeps its window. Assumes nothing.
use Prim.Native.Nat.{ℕ, ◌+◌, ◌<◌}
use mathlib.Core.Path.{◌≡◌, refl, sym, ◌∙◌, ap}
use mathlib.Core.List.{List, [], ◌∷◌, ◌++◌}
use native.Mathlib.Omega.{arith}
use lib.ListN.{take}
use Rattle.day.specs.Windows.{Windows, at}
use Rattle.day.proofs.Cases.{give, on_eq}
use Rattle.day.proofs.Joined.{beside_first}
use Rattle.checks.specs.Answer.{done}
use Rattle.fieldday.specs.declared.FieldDay.{FieldDay}
use Rattle.fieldday.specs.Held.{list_held, day_of, held_at}
use Rattle.fieldday.specs.steps.Sound.{Sound}
use Rattle.fieldday.proofs.Days.{rows_held}
use Rattle.demands.specs.FieldDay.{HasPlaces, Call, advances, adds, offers, came, after}
use Rattle.demands.specs.History.{SameJob, RowsStay}
use Rattle.demands.proofs.Standing.{begins, ends}
use Rattle.demands.proofs.Added.{begins_with, ends_with, rows_with, add_sound}
use Rattle.demands.proofs.Offered.{offer_sound, holds}
use Rattle.demands.proofs.FieldDay.{advance_sound, call_kept}

module _ {f : FieldDay} (places : HasPlaces f) (sound : Sound f) (i : ℕ) (l : i < f.count) where
  at_same_job : (slot : ℕ) (starts : List ℕ) → SameJob f (held_at f slot starts) i
  at_same_job slot starts =
      give (rows_held f.day slot f.count f.releases f.deadlines starts (begins places sound) (ends places sound))
      (λ same.
      record {
        held = l;
        release = ap (λ (w : Windows). w.release i) same;
        deadline = ap (λ (w : Windows). w.deadline i) same;
      })

  with_same_job : (release deadline : ℕ) (starts : List ℕ)
      → SameJob f
      (day_of f.day f.slot (f.count + 1) (take f.count f.releases ++ release ∷ []) (take f.count f.deadlines ++ deadline ∷ []) starts)
      i
  with_same_job release deadline starts =
      give (rows_with places sound release deadline)
      (λ rows.
      give
      (rows_held f.day f.slot (f.count + 1) (take f.count f.releases ++ release ∷ []) (take f.count f.deadlines ++ deadline ∷ [])
      starts (begins_with places sound release deadline) (ends_with places sound release deadline))
      (λ same.
      record {
        held = omega arith;
        release =
            ap (λ (w : Windows). w.release i) same
            ∙ sym (rows.release i (omega arith))
            ∙ beside_first f.count (list_held f).release (at (release ∷ [])) i l;
        deadline =
            ap (λ (w : Windows). w.deadline i) same
            ∙ sym (rows.deadline i (omega arith))
            ∙ beside_first f.count (list_held f).deadline (at (deadline ∷ [])) i l;
      }))

same_job : (f : FieldDay) → HasPlaces f → (c : Call f) (i : ℕ) → i < f.count → (came c).answer.code ≡ done → SameJob f (after c) i
same_job f places (advances r p) i l e = rw (p.advanced e) (at_same_job places (advance_sound p e) i l (f.slot + 1) f.starts)
same_job f places (adds release deadline table r table_after p) i l e =
    rw (p.added e) (with_same_job places (add_sound p e) i l release deadline p.starts_after)
same_job f places (offers server r p) i l e =
    rw (holds p e).held (at_same_job places (offer_sound p e) i l f.slot (holds p e).starts)

pub rows_stay : RowsStay
rows_stay f places c i l =
    on_eq (came c).answer.code done (same_job f places c i l)
    (λ n. rw (call_kept f c n) (record { held = l; release = refl; deadline = refl }))
