-- Laws of a new row after the rows of a list: when the list with it is accepted, and how it is refused. Assumes nothing.
use Prim.Native.Nat.{ℕ, ◌+◌, ◌≤◌, ◌<◌}
use mathlib.Core.Path.{◌≡◌, refl}
use mathlib.Core.List.{List}
use mathlib.Core.Logic.{inl, inr, ⊎_elim}
use native.Mathlib.Omega.{arith}
use lib.ListN.{length}
use Rattle.day.specs.declared.Day.{Day}
use Rattle.day.specs.Windows.{Windows}
use Rattle.day.specs.Joined.{joined}
use Rattle.day.proofs.Cases.{on_le, on_eq}
use Rattle.day.proofs.Joined.{beside_first, beside_last}
use Rattle.checks.specs.declared.Answer.{Answer}
use Rattle.checks.specs.Answer.{says, too_many_jobs, bad_row, few_starts}
use Rattle.checks.specs.Refusal.{◌then◌, stops, goes_on, Passed, Refuses, RefusesRow}
use Rattle.checks.specs.Check.{most_jobs, BadRow, RowsCheck, GoodRows, Accepted}
use Rattle.checks.proofs.Refusal.{then_clear, clear_first, clear_next, no_fault}
use Rattle.checks.proofs.Check.{accepted_clear}
use Rattle.planner.specs.Promise.{PlanCheck}
use Rattle.fieldday.specs.declared.FieldDay.{FieldDay}
use Rattle.fieldday.specs.Held.{list_held, one_row, held_with}
use Rattle.fieldday.specs.steps.Sound.{Sound}
use Rattle.fieldday.specs.steps.NewRow.{NewRowBad, NewRowCheck}

-- a bad row after n good ones is refused
pub new_row_bad : {slots n release deadline : ℕ} → BadRow slots (one_row release deadline) 0
    → RefusesRow bad_row (n + 1) (NewRowBad slots n release deadline) (says bad_row (n + 1) 0)
new_row_bad {n = n} bad =
    record {
      row = n;
      first = record { within = omega arith; fault = (refl, bad); lowest = λ j h b. omega (arith, b.0) };
      says = refl;
    }

module _ (slots : ℕ) (w : Windows) (release deadline : ℕ) where
  abbrev with_row : Windows
  with_row = joined w (one_row release deadline)

  bad_before : (i : ℕ) → i < w.count → BadRow slots with_row i ≡ BadRow slots w i
  bad_before i h =
      rw (beside_first w.count w.release (one_row release deadline).release i h, beside_first w.count w.deadline (one_row release deadline).deadline i h)

  bad_last : BadRow slots with_row w.count ≡ BadRow slots (one_row release deadline) 0
  bad_last =
      rw (beside_last w.count w.release (one_row release deadline).release, beside_last w.count w.deadline (one_row release deadline).deadline)

  module _ {limit : ℕ} (good : GoodRows limit slots w) where
    not_bad : (i : ℕ) → i < w.count → BadRow slots with_row i → ⊥
    not_bad i h b =
        ⊎_elim (λ z. omega (arith, good.window i h)) (λ z. omega (arith, good.in_day i h)) (rw (bad_before i h) at b)

    -- after good rows the new one is the first that is bad
    pub new_row_refused : (a : Answer) → RefusesRow bad_row (w.count + 1) (NewRowBad slots w.count release deadline) a → RowsCheck slots with_row a
    new_row_refused a r =
        record {
          row = r.row;
          first =
              record {
                within = r.first.within;
                fault = rw (r.first.fault.0, bad_last) r.first.fault.1;
                lowest = λ j h. not_bad j (omega (arith, r.first.fault.0));
              };
          says = r.says;
        }

-- a list with a good row last is accepted
pub with_row_accepted : {day : Day} {w : Windows} {release deadline : ℕ} → Accepted day w → w.count < most_jobs → release < deadline
    → deadline ≤ day.slots → Accepted day (joined w (one_row release deadline))
with_row_accepted {day} {w} {release} {deadline} accepted room window in_day =
    record {
      some_slots = accepted.some_slots;
      slots = accepted.slots;
      wake = accepted.wake;
      rows =
          record {
            count = omega arith;
            window = λ i l.
                on_eq i w.count (λ e. rw e (omega (arith, last_release, last_deadline)))
                (λ e. omega (arith, before_release i (omega arith), before_deadline i (omega arith), accepted.rows.window i (omega arith)));
            in_day = λ i l.
                on_eq i w.count (λ e. rw e (omega (arith, last_deadline)))
                (λ e. omega (arith, before_deadline i (omega arith), accepted.rows.in_day i (omega arith)));
          };
    }
  where
    last_release : (joined w (one_row release deadline)).release w.count ≡ release
    last_release = beside_last w.count w.release (one_row release deadline).release

    last_deadline : (joined w (one_row release deadline)).deadline w.count ≡ deadline
    last_deadline = beside_last w.count w.deadline (one_row release deadline).deadline

    before_release : (i : ℕ) → i < w.count → (joined w (one_row release deadline)).release i ≡ w.release i
    before_release = beside_first w.count w.release (one_row release deadline).release

    before_deadline : (i : ℕ) → i < w.count → (joined w (one_row release deadline)).deadline i ≡ w.deadline i
    before_deadline = beside_first w.count w.deadline (one_row release deadline).deadline

-- of the list of a sound day with a new row the planner's checks refuse what the new row is refused for
module _ {f : FieldDay} (sound : Sound f) (release deadline : ℕ) (table : List ℕ) (places : length f.starts ≡ most_jobs) where
  module _ (few : (b : Answer) → Refuses too_many_jobs (most_jobs < f.count + 1) b → ⊥)
      (good : (b : Answer) → RefusesRow bad_row (f.count + 1) (NewRowBad f.day.slots f.count release deadline) b → ⊥) where
    accepted_with : Accepted f.day (held_with f release deadline)
    accepted_with =
        with_row_accepted sound.accepted (on_le (f.count + 1) most_jobs (λ h. omega arith) (λ h. absurd (no_fault few h)))
        (on_le deadline release (λ h. absurd (good _ (new_row_bad (inl h)))) (λ h. h))
        (on_le deadline f.day.slots (λ h. h) (λ h. absurd (good _ (new_row_bad (inr h)))))

    room_for_starts : (b : Answer) → Refuses few_starts (length f.starts < f.count + 1) b → ⊥
    room_for_starts b r = omega (arith, r.fault, accepted_with.rows.count)

  pub new_row_checked : (a : Answer) → (NewRowCheck f.day.slots f.count release deadline (length table) then Passed) a
      → (PlanCheck f.day (held_with f release deadline) f.starts table then Passed) a
  new_row_checked a (stops (stops p)) =
      let held = accepted_clear sound.accepted in
      stops (stops (goes_on (clear_first held) (goes_on (clear_first (clear_next held)) (stops p))))
  new_row_checked a (stops (goes_on n (stops p))) =
      let held = accepted_clear sound.accepted in
      stops (stops (goes_on (clear_first held) (goes_on (clear_first (clear_next held)) (goes_on n
      (new_row_refused f.day.slots (list_held f) release deadline sound.accepted.rows a p)))))
  new_row_checked a (stops (goes_on n (goes_on m p))) =
      stops (goes_on (accepted_clear (accepted_with n m)) (goes_on (room_for_starts n m) p))
  new_row_checked a (goes_on n p) =
      let few = clear_first n in
      let good = clear_first (clear_next n) in
      goes_on (then_clear (accepted_clear (accepted_with few good)) (then_clear (room_for_starts few good) (clear_next (clear_next n)))) p
