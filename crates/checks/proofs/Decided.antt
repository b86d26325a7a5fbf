-- Every check answers: it refuses, or has nothing to refuse. Assumes nothing.
use Prim.Native.Nat.{ℕ, ◌+◌, ◌<◌}
use mathlib.Core.Path.{refl}
use mathlib.Core.Logic.{◌⊎◌, inl, inr, ⊎_elim}
use native.Mathlib.Omega.{arith}
use Rattle.day.specs.declared.Power.{Power}
use Rattle.day.specs.declared.Day.{Day}
use Rattle.day.specs.Windows.{Windows}
use Rattle.day.proofs.Cases.{on_eq, on_le}
use Rattle.checks.specs.declared.Answer.{Answer}
use Rattle.checks.specs.Answer.{says, bad_slots, bad_wake, too_many_jobs, bad_row}
use Rattle.checks.specs.Refusal.{◌then◌, stops, goes_on, Refuses, RefusesRow, RefusesPair}
use Rattle.checks.specs.Check.{most_slots, most_wake, most_jobs, SlotsCheck, PowerCheck, JobsCheck, ListCheck}
use Rattle.checks.proofs.Refusal.{first_or_none, first_pair_or_none, then_clear}
use Rattle.checks.proofs.Check.{bad_row_known}

abbrev pub Known : Type 0 → Type 0
Known Fault = Fault ⊎ (Fault → ⊥)

abbrev pub Decided : (Answer → Type 0) → Type 0
Decided Check = ((a : Answer) × Check a) ⊎ ((b : Answer) → Check b → ⊥)

pub above_known : (limit x : ℕ) → Known (limit < x)
above_known limit x = on_le x limit (λ h. inr (λ l. omega arith)) (λ h. inl h)

pub then_decided : {Check Next : Answer → Type 0} → Decided Check → Decided Next → Decided (Check then Next)
then_decided (inl p) d = inl (p.0, stops p.1)
then_decided (inr n) (inl q) = inl (q.0, goes_on n q.1)
then_decided (inr n) (inr m) = inr (then_clear n m)

pub refuses_decided : {Fault : Type 0} (code : ℕ) → Known Fault → Decided (Refuses code Fault)
refuses_decided code (inl f) = inl (says code 0 0, record { fault = f; says = refl })
refuses_decided code (inr n) = inr (λ b r. n r.fault)

pub refuses_row_decided : {Fault : ℕ → Type 0} (code n : ℕ) → ((i : ℕ) → Known (Fault i)) → Decided (RefusesRow code n Fault)
refuses_row_decided code n known =
    ⊎_elim (λ f. inl (says code (f.0 + 1) 0, record { row = f.0; first = f.1; says = refl }))
    (λ none. inr (λ b r. none r.row r.first.within r.first.fault))
    (first_or_none known n)

pub refuses_pair_decided : {Fault : ℕ → ℕ → Type 0} (code n : ℕ) → ((i j : ℕ) → Known (Fault i j)) → Decided (RefusesPair code n Fault)
refuses_pair_decided code n known =
    ⊎_elim (λ f. inl (says code (f.0 + 1) (f.1 + 1), record { row = f.0; partner = f.1; first = f.2; says = refl }))
    (λ none. inr (λ b r. none r.row r.partner r.first.order r.first.within r.first.fault))
    (first_pair_or_none known n)

-- codes 1 to 4

slots_decided : (slots : ℕ) → Decided (SlotsCheck most_slots slots)
slots_decided slots =
    refuses_decided bad_slots
    (on_eq slots 0 (λ e. inl (inl e)) (λ e. on_le slots most_slots (λ h. inr (⊎_elim e (λ l. omega arith))) (λ h. inl (inr h))))

power_decided : (power : Power) → Decided (PowerCheck power)
power_decided power = refuses_decided bad_wake (above_known most_wake power.wake)

jobs_decided : (slots : ℕ) (w : Windows) → Decided (JobsCheck most_jobs slots w)
jobs_decided slots w =
    then_decided (refuses_decided too_many_jobs (above_known most_jobs w.count))
    (refuses_row_decided bad_row w.count (bad_row_known slots w))

pub list_decided : (day : Day) (w : Windows) → Decided (ListCheck day w)
list_decided day w = then_decided (slots_decided day.slots) (then_decided (power_decided day.power) (jobs_decided day.slots w))
