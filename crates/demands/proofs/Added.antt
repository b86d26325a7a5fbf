-- Adding a job: the day afterwards stands, and holds the best plan of the cut list with the new row. Assumes nothing.
use Prim.Native.Nat.{ℕ, ◌+◌, ◌≤◌, ◌<◌}
use mathlib.Core.Path.{◌≡◌, refl, sym, ◌∙◌, ap}
use mathlib.Core.List.{List, [], ◌∷◌, ◌++◌}
use mathlib.Core.Logic.{◌⊎◌, inl, inr, ⊎_elim}
use native.Mathlib.Omega.{arith}
use lib.ListN.{length, take, length-append}
use lib.Seq.{length-take-le, get_or-take}
use Rattle.day.specs.Windows.{Windows, at, SameRows}
use Rattle.day.specs.Best.{Best}
use Rattle.day.specs.Joined.{beside}
use Rattle.day.proofs.Cases.{give}
use Rattle.day.proofs.Plan.{same_rows_refl, proper_wider}
use Rattle.day.proofs.Best.{best_cong, best_costs, best_unique}
use Rattle.day.proofs.Joined.{first_proper, second_proper}
use Rattle.checks.specs.declared.Answer.{Answer}
use Rattle.checks.specs.Answer.{says, done}
use Rattle.checks.specs.Check.{Accepted}
use Rattle.checks.specs.Planned.{Verdict, costs, none_proper}
use Rattle.checks.proofs.Refusal.{avoids_clear, passed_clear, then_next, clear_first, clear_next, code_of}
use Rattle.checks.proofs.Planned.{best_held}
use Rattle.planner.proofs.Promise.{list_accepted, enough_starts}
use Rattle.fieldday.specs.declared.FieldDay.{FieldDay}
use Rattle.fieldday.specs.declared.FieldAnswer.{FieldAnswer}
use Rattle.cutlist.specs.Cut.{raised}
use Rattle.fieldday.specs.Held.{cut_held, one_row, held_with, cut_with}
use Rattle.fieldday.specs.steps.Sound.{Sound}
use Rattle.fieldday.specs.Promise.{AddCheck, AddPromise}
use Rattle.fieldday.proofs.Sound.{clear_sound}
use Rattle.cutlist.proofs.CutWindow.{raised_from}
use Rattle.fieldday.proofs.CutList.{no_slot_left}
use Rattle.fieldday.proofs.Places.{at_zeros}
use Rattle.fieldday.proofs.Days.{cut_with_narrower, first_rows}
use Rattle.fieldday.proofs.Checks.{add_is_check, add_not_no_plan}
use Rattle.demands.specs.FieldDay.{HasPlaces, BestAdded, NoneAdded, AddAdmitted, AddsBestOrNone, AddsSeven}
use Rattle.demands.proofs.Joined.{append_beside}
use Rattle.demands.proofs.Standing.{Stands, day_stands, begins, ends, Replanned}

-- a list's first n numbers and one more
module _ (n : ℕ) (xs : List ℕ) (y : ℕ) (has : n ≤ length xs) where
  one_more : n + 1 ≤ length (take n xs ++ y ∷ [])
  one_more = omega (arith, length-append (take n xs) (y ∷ []), length-take-le n xs has)

  row_with : (i : ℕ) → i < n + 1 → beside n (at (take n xs)) (at (y ∷ [])) i ≡ at (take (n + 1) (take n xs ++ y ∷ [])) i
  row_with i l =
      sym (get_or-take (n + 1) (take n xs ++ y ∷ []) i 0 l ∙ append_beside (take n xs) (y ∷ []) n i (length-take-le n xs has))

-- the list held and the new row, in the places of a day
module _ {f : FieldDay} (places : HasPlaces f) (sound : Sound f) (release deadline : ℕ) where
  pub begins_with : f.count + 1 ≤ length (take f.count f.releases ++ release ∷ [])
  begins_with = one_more f.count f.releases release (begins places sound)

  pub ends_with : f.count + 1 ≤ length (take f.count f.deadlines ++ deadline ∷ [])
  ends_with = one_more f.count f.deadlines deadline (ends places sound)

  pub rows_with : SameRows (held_with f release deadline)
      (first_rows (f.count + 1) (take f.count f.releases ++ release ∷ []) (take f.count f.deadlines ++ deadline ∷ []))
  rows_with =
      record {
        count = refl;
        release = row_with f.count f.releases release (begins places sound);
        deadline = row_with f.count f.deadlines deadline (ends places sound);
      }

-- the new row, as it is planned
abbrev new_row : FieldDay → ℕ → ℕ → Windows
new_row f release deadline = one_row (raised f.slot release) deadline

module _ {f : FieldDay} {release deadline : ℕ} {table : List ℕ} {r : FieldAnswer} {table_after : List ℕ}
    (p : AddPromise f release deadline table r table_after) where
  pub add_clear : r.answer.code ≡ done → (b : Answer) → AddCheck f release deadline table b → ⊥
  add_clear e = passed_clear (add_is_check f release deadline table) r.answer p.planned.answer e

  module _ (e : r.answer.code ≡ done) where
    held_with_accepted : Accepted f.day (held_with f release deadline)
    held_with_accepted = list_accepted f.day (held_with f release deadline) f.starts table (clear_next (add_clear e))

    pub add_sound : Sound f
    add_sound = clear_sound (clear_first (add_clear e))

    starts_long : f.count + 1 ≤ length p.starts_after
    starts_long =
        omega (
          arith,
          (p.planned.planned e).filled.long,
          enough_starts f.day (held_with f release deadline) f.starts table (clear_next (add_clear e)),
        )

    pub held_start : (i : ℕ) → i < f.count + 1 → at r.held.starts i ≡ at p.starts_after i
    held_start = rw (p.added e) (at_zeros (f.count + 1) p.starts_after starts_long)

    pub held_best : Best f.day (cut_with f release deadline) (at r.held.starts)
    held_best =
        best_cong f.day (cut_with f release deadline) (cut_with f release deadline) (at p.starts_after) (at r.held.starts)
        (same_rows_refl (cut_with f release deadline)) (λ i l. sym (held_start i l)) (best_held (p.planned.planned e))

    pub added_stands : HasPlaces f → Stands r.held
    added_stands places =
        rw (p.added e)
        (day_stands f.day f.slot (f.count + 1) (take f.count f.releases ++ release ∷ [])
        (take f.count f.deadlines ++ deadline ∷ []) p.starts_after (begins_with places add_sound release deadline)
        (ends_with places add_sound release deadline) (rows_with places add_sound release deadline) held_with_accepted
        (record {
          long = starts_long;
          proper =
              proper_wider (cut_with_narrower f release deadline add_sound.fit) (best_held (p.planned.planned e)).proper;
        })
        add_sound.slot)

    pub add_replanned : Replanned f r.held
    add_replanned =
        record {
          slot = rw (p.added e);
          count = rw (p.added e) (omega arith);
          proper = first_proper (cut_held f) (new_row f release deadline) (at r.held.starts) held_best.proper;
          new = λ i l m.
              give {A = i ≡ f.count + 0} (omega (arith, ap (λ (g : FieldDay). g.count) (p.added e)))
              (λ q.
              rw q
              (omega (
                arith,
                ((second_proper (cut_held f) (new_row f release deadline) (at r.held.starts) held_best.proper).inside 0 (omega arith)).0,
                raised_from f.slot release,
              )));
        }

pub add_admitted : AddAdmitted
add_admitted f release deadline table r table_after p =
    ⊎_elim (add_clear p) (avoids_clear (add_not_no_plan f release deadline table) r.answer p.planned.answer)

module _ {f : FieldDay} {release deadline : ℕ} {table : List ℕ} {r : FieldAnswer} {table_after : List ℕ}
    (p : AddPromise f release deadline table r table_after) where
  given : Verdict f.day (cut_with f release deadline) r.answer → BestAdded f release deadline r ⊎ NoneAdded f release deadline r
  given (costs q best answer) =
      give (held_best p (code_of answer))
      (λ held.
      inl
      (record {
        answer =
            answer ∙ ap (λ x. says done x 0) (best_costs f.day (cut_with f release deadline) q (at r.held.starts) best held);
        best = held;
        only = λ other. best_unique f.day (cut_with f release deadline) (at r.held.starts) other held;
      }))
  given (none_proper none answer) =
      inr (record { answer = answer; none = none; held = p.refused (λ e. omega (arith, code_of answer)) })

pub adds_best_or_none : AddsBestOrNone
adds_best_or_none f release deadline table r table_after p clear = given p (then_next clear r.answer p.planned.answer)

pub adds_seven : AddsSeven
adds_seven f release deadline table r table_after p clear =
    ⊎_elim
    (λ b.
    record {
      only_if = λ code. absurd (omega (arith, code_of b.answer));
      of_none = λ none. absurd (none (at r.held.starts) b.best.proper);
      of_empty = λ h. absurd (no_slot_left f release deadline h (at r.held.starts) b.best.proper);
    })
    (λ n.
    record { only_if = λ code. n.none; of_none = λ none. code_of n.answer; of_empty = λ h. code_of n.answer })
    (adds_best_or_none f release deadline table r table_after p clear)
