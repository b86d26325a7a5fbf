-- Over any history each job is done at most once, and exactly once by the day's end. Assumes nothing.
use Prim.Native.Nat.{ℕ, ◌+◌, ◌≤◌, ◌<◌}
use mathlib.Core.Path.{◌≡◌, refl, sym, ◌∙◌}
use mathlib.Core.Bool.{cond, ◌&&◌}
use mathlib.Core.Logic.{◌⊎◌, inl, inr, ⊎_elim}
use native.Mathlib.Nat.{zero-add}
use native.Mathlib.Omega.{arith}
use lib.Dec.{ltb}
use lib.ListN.{length}
use borrow.Author.Tests.{eq-eqb, ne_eqb, lt-ltb, le-ltb}
use Rattle.day.specs.Windows.{at}
use Rattle.day.proofs.Cases.{give, on_le, on_eq}
use Rattle.checks.specs.Answer.{done}
use Rattle.claim.proofs.Claim.{fit_below}
use Rattle.fieldday.specs.declared.FieldDay.{FieldDay}
use Rattle.fieldday.specs.Held.{list_held, held_at}
use Rattle.fieldday.specs.steps.Sound.{Sound}
use Rattle.fieldday.proofs.Places.{at_zeros}
use Rattle.cutlist.proofs.CutPlan.{done_stays, open_stays}
use Rattle.demands.specs.FieldDay.{HasPlaces, Call, advances, adds, offers, came, after}
use Rattle.demands.specs.History.{Calls, calls_end, calls_then, History, last, rows_in, does, happened, times, DoneAtMostOnce, DoneOnceByEnd}
use Rattle.demands.proofs.Standing.{Stands, Replanned}
use Rattle.demands.proofs.Added.{add_replanned}
use Rattle.demands.proofs.Offered.{offer_replanned}
use Rattle.demands.proofs.FieldDay.{opened_stands, advance_sound, after_stands, call_kept}
use Rattle.demands.proofs.Times.{times_append, none_in, once_in}

-- 1 for a row that is done, else 0
passed : FieldDay → ℕ → ℕ
passed f i = cond (ltb i f.count && ltb (at f.starts i) f.slot) 1 0

module _ (f : FieldDay) (i : ℕ) where
  passed_done : i < f.count → at f.starts i < f.slot → passed f i ≡ 1
  unfolding passed
  passed_done l d = rw (lt-ltb i f.count l, lt-ltb (at f.starts i) f.slot d)

  passed_open : (i < f.count → f.slot ≤ at f.starts i) → passed f i ≡ 0
  unfolding passed
  passed_open later =
      on_le f.count i (λ h. rw (le-ltb i f.count h))
      (λ h. rw (lt-ltb i f.count h, le-ltb (at f.starts i) f.slot (later h)))

  passed_most : passed f i ≤ 1
  passed_most =
      on_le f.slot (at f.starts i) (λ h. omega (arith, passed_open (λ l. h)))
      (λ h.
      on_le f.count i (λ l. omega (arith, passed_open (λ k. absurd (omega arith)))) (λ l. omega (arith, passed_done l h)))

passed_replanned : {f g : FieldDay} → Replanned f g → (i : ℕ) → passed g i ≡ passed f i
passed_replanned {f} {g} new i =
    on_le f.count i
    (λ out.
    passed_open g i (λ l. omega (arith, new.new i out l, new.slot)) ∙ sym (passed_open f i (λ l. absurd (omega arith))))
    (λ l.
    on_le f.slot (at f.starts i)
    (λ h.
    passed_open g i (λ k. omega (arith, open_stays f.slot (at f.starts) (list_held f) new.proper i l h, new.slot))
    ∙ sym (passed_open f i (λ k. h)))
    (λ h.
    passed_done g i (omega (arith, new.count))
    (omega (arith, done_stays f.slot (at f.starts) (list_held f) new.proper i l h, new.slot))
    ∙ sym (passed_done f i l h)))

-- a slot later, what the plan held has in the slot is done too
module _ (f : FieldDay) (has : f.count ≤ length f.starts) (i : ℕ) where
  abbrev later : FieldDay
  later = held_at f (f.slot + 1) f.starts

  passed_advanced : times i (rows_in f.count (at f.starts) f.slot) + passed f i ≡ passed later i
  passed_advanced =
      on_le f.count i
      (λ out.
      omega (
        arith,
        none_in (at f.starts) f.slot i f.count (λ l. absurd (omega arith)),
        passed_open f i (λ l. absurd (omega arith)),
        passed_open later i (λ l. absurd (omega arith)),
      ))
      (λ l.
      give (at_zeros f.count f.starts has i l)
      (λ same.
      on_eq (at f.starts i) f.slot
      (λ e.
      omega (
        arith,
        once_in (at f.starts) f.slot i f.count l e,
        passed_open f i (λ k. omega arith),
        passed_done later i l (omega arith),
      ))
      (λ n.
      give (none_in (at f.starts) f.slot i f.count (λ k. n))
      (λ none.
      on_le f.slot (at f.starts i)
      (λ h. omega (arith, passed_open f i (λ k. h), passed_open later i (λ k. omega arith)))
      (λ h. omega (arith, passed_done f i l h, passed_done later i l (omega arith)))))))

-- what a call does and what was done before it is what is done after it
call_passed : (f : FieldDay) (c : Call f) (i : ℕ) → times i (does c) + passed f i ≡ passed (after c) i
unfolding does times
call_passed f (advances r p) i =
    on_eq r.answer.code done
    (λ e. rw (eq-eqb r.answer.code done e, p.advanced e) (passed_advanced f (advance_sound p e).fit.long i))
    (λ n. rw (ne_eqb r.answer.code done n, p.refused n) (zero-add (passed f i)))
call_passed f (adds release deadline table r table_after p) i =
    on_eq r.answer.code done (λ e. omega (arith, passed_replanned (add_replanned p e) i))
    (λ n. rw (p.refused n) (zero-add (passed f i)))
call_passed f (offers server r p) i =
    on_eq r.answer.code done (λ e. omega (arith, passed_replanned (offer_replanned p e) i))
    (λ n. rw (p.refused n) (zero-add (passed f i)))

calls_passed : {f : FieldDay} (cs : Calls f) (i : ℕ) → times i (happened cs) + passed f i ≡ passed (last cs) i
unfolding happened last times
calls_passed {f} calls_end i = zero-add (passed f i)
calls_passed {f} (calls_then c cs) i =
    omega (arith, times_append i (does c) (happened cs), call_passed f c i, calls_passed cs i)

-- nothing is done when a day opens
opening_passed : (h : History) (i : ℕ) → passed h.opening.held i ≡ 0
opening_passed h i = passed_open h.opening.held i (λ l. omega (arith, at_start))
  where
    at_start : h.opening.held.slot ≡ 0
    at_start =
        on_eq h.opening.answer.code done (λ e. rw (h.opened.opened e)) (λ n. rw (h.opened.refused n))

pub done_at_most_once : DoneAtMostOnce
done_at_most_once h i = omega (arith, calls_passed h.calls i, passed_most (last h.calls) i)

-- a day is sound from its opening on, or has no rows where that was refused
record Ready (f : FieldDay) : Type 0 where
  places : HasPlaces f
  sound : Sound f ⊎ (f.count ≡ 0)

stands_ready : {f : FieldDay} → Stands f → Ready f
stands_ready stands = record { places = stands.places; sound = inl stands.sound }

opening_ready : (h : History) → Ready h.opening.held
opening_ready h =
    on_eq h.opening.answer.code done
    (λ e. stands_ready (opened_stands h.day h.releases h.deadlines h.starts h.opening h.opened e))
    (λ n.
    rw (h.opened.refused n)
    (record { places = record { releases = refl; deadlines = refl; starts = refl }; sound = inr refl }))

calls_ready : {f : FieldDay} (cs : Calls f) → Ready f → Ready (last cs)
unfolding last
calls_ready calls_end ready = ready
calls_ready {f} (calls_then c cs) ready =
    calls_ready cs
    (on_eq (came c).answer.code done (λ e. stands_ready (after_stands f ready.places c e)) (λ n. rw (call_kept f c n) ready))

pub done_once_by_end : DoneOnceByEnd
done_once_by_end h end i l =
    ⊎_elim
    (λ sound.
    omega (
      arith,
      calls_passed h.calls i,
      opening_passed h i,
      passed_done (last h.calls) i l (omega (arith, end, fit_below sound.accepted.rows sound.fit i l)),
    ))
    (λ none. absurd (omega arith))
    (calls_ready h.calls (opening_ready h)).sound
