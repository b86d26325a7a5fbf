-- What opening and advancing do, and what holds of every call. Assumes nothing.
use Prim.Native.Nat.{ℕ, ◌+◌, ◌≤◌, ◌<◌}
use mathlib.Core.Path.{◌≡◌, refl, sym}
use mathlib.Core.List.{List}
use native.Mathlib.Omega.{arith}
use lib.ListN.{length}
use lib.Seq.{get_or-take}
use Rattle.day.specs.declared.Day.{Day}
use Rattle.day.specs.Windows.{windows, at}
use Rattle.day.proofs.Cases.{give, on_le, on_eq}
use Rattle.checks.specs.declared.Answer.{Answer}
use Rattle.checks.specs.Answer.{done}
use Rattle.checks.proofs.Refusal.{passed_clear, clear_first, clear_next, no_fault}
use Rattle.checks.proofs.Check.{list_is_check, clear_accepted, good_rows_deadlines}
use Rattle.claim.proofs.Claim.{claim_is_check, clear_fit}
use Rattle.fieldday.specs.declared.FieldDay.{FieldDay}
use Rattle.fieldday.specs.declared.FieldAnswer.{FieldAnswer}
use Rattle.cutlist.specs.Cut.{Done}
use Rattle.fieldday.specs.Held.{list_held, held_at}
use Rattle.fieldday.specs.steps.Sound.{Sound}
use Rattle.fieldday.specs.Promise.{Kept, OpenPromise, AdvanceCheck, AdvancePromise}
use Rattle.fieldday.proofs.Sound.{sound_clear, clear_sound}
use Rattle.fieldday.proofs.Places.{at_zeros}
use Rattle.cutlist.proofs.CutPlan.{done_stays}
use Rattle.fieldday.proofs.Checks.{advance_is_check}
use Rattle.demands.specs.FieldDay.{HasPlaces, Call, advances, adds, offers, came, after, OpenedPasses, AfterPasses, StaysDone, DoneKeepsSlot, AdvanceNoDearer}
use Rattle.demands.proofs.Standing.{Stands, day_stands, at_costs, at_stands, Replanned}
use Rattle.demands.proofs.Added.{added_stands, add_replanned}
use Rattle.demands.proofs.Offered.{offered_stands, offer_replanned}

-- opening

pub opened_stands : (day : Day) (releases deadlines starts : List ℕ) (r : FieldAnswer) → OpenPromise day releases deadlines starts r
    → r.answer.code ≡ done → Stands r.held
opened_stands day releases deadlines starts r p e =
    give (passed_clear (claim_is_check list_is_check (windows releases deadlines) starts) r.answer p.answer e)
    (λ clear.
    give (clear_accepted (clear_first clear))
    (λ accepted.
    rw (p.opened e)
    (day_stands day 0 (length releases) releases deadlines starts (omega arith) (good_rows_deadlines releases deadlines accepted.rows)
    (record {
      count = refl;
      release = λ i l. sym (get_or-take (length releases) releases i 0 l);
      deadline = λ i l. sym (get_or-take (length releases) deadlines i 0 l);
    })
    accepted (clear_fit (windows releases deadlines) starts (clear_next clear)) (omega arith))))

pub opened_passes : OpenedPasses
opened_passes day releases deadlines starts r p e = sound_clear (opened_stands day releases deadlines starts r p e).sound

-- advancing

module _ {f : FieldDay} {r : FieldAnswer} (p : AdvancePromise f r) (e : r.answer.code ≡ done) where
  advance_clear : (b : Answer) → AdvanceCheck f b → ⊥
  advance_clear = passed_clear (advance_is_check f) r.answer p.answer e

  pub advance_sound : Sound f
  advance_sound = clear_sound (clear_first advance_clear)

  before_end : f.slot + 1 ≤ f.day.slots
  before_end =
      on_le (f.slot + 1) f.day.slots (λ h. h)
      (λ h. absurd (no_fault (clear_next advance_clear) (omega (arith, advance_sound.slot))))

  advanced_stands : HasPlaces f → Stands r.held
  advanced_stands places =
      rw (p.advanced e) (at_stands f (f.slot + 1) f.starts places advance_sound advance_sound.fit before_end)

pub advance_no_dearer : AdvanceNoDearer
advance_no_dearer f r p =
    on_eq r.answer.code done
    (λ e. rw (p.advanced e) (omega (arith, at_costs f (f.slot + 1) f.starts (advance_sound p e).fit.long)))
    (λ n. rw (p.refused n) (omega arith))

-- all calls

pub after_stands : (f : FieldDay) → HasPlaces f → (c : Call f) → (came c).answer.code ≡ done → Stands (after c)
after_stands f places (advances r p) e = advanced_stands p e places
after_stands f places (adds release deadline table r table_after p) e = added_stands p e places
after_stands f places (offers server r p) e = offered_stands p e places

pub after_passes : AfterPasses
after_passes f places c e = sound_clear (after_stands f places c e).sound

-- a refused call gives the day back
pub call_kept : (f : FieldDay) (c : Call f) → Kept f (came c)
call_kept f (advances r p) = p.refused
call_kept f (adds release deadline table r table_after p) = p.refused
call_kept f (offers server r p) = p.refused

replanned_done : {f g : FieldDay} → Replanned f g → (i : ℕ) → i < f.count → Done f.slot (at f.starts) i → StaysDone f g i
replanned_done {f} {g} new i l d =
    give (done_stays f.slot (at f.starts) (list_held f) new.proper i l d)
    (λ same. record { held = omega (arith, new.count); slot = same; done = omega (arith, same, new.slot) })

advanced_done : (f : FieldDay) → f.count ≤ length f.starts → (i : ℕ) → i < f.count → Done f.slot (at f.starts) i
    → StaysDone f (held_at f (f.slot + 1) f.starts) i
advanced_done f has i l d =
    give (at_zeros f.count f.starts has i l) (λ same. record { held = l; slot = same; done = omega (arith, same) })

stays_done : (f : FieldDay) (c : Call f) (i : ℕ) → i < f.count → Done f.slot (at f.starts) i → (came c).answer.code ≡ done
    → StaysDone f (after c) i
stays_done f (advances r p) i l d e = rw (p.advanced e) (advanced_done f (advance_sound p e).fit.long i l d)
stays_done f (adds release deadline table r table_after p) i l d e = replanned_done (add_replanned p e) i l d
stays_done f (offers server r p) i l d e = replanned_done (offer_replanned p e) i l d

pub done_keeps_slot : DoneKeepsSlot
done_keeps_slot f c i l d =
    on_eq (came c).answer.code done (stays_done f c i l d)
    (λ n. rw (call_kept f c n) (record { held = l; slot = refl; done = d }))
