-- The days that calls give back: one that stands has its places and judging refuses nothing of it; one that is replanned keeps what is done.
-- Assumes nothing.
use Prim.Native.Nat.{ℕ, ◌≤◌, ◌<◌}
use mathlib.Core.Path.{◌≡◌}
use mathlib.Core.List.{List}
use native.Mathlib.Omega.{arith}
use lib.ListN.{length}
use Rattle.day.specs.declared.Day.{Day}
use Rattle.day.specs.Windows.{Windows, at, SameRows}
use Rattle.day.specs.Plan.{Proper}
use Rattle.day.proofs.Cases.{give}
use Rattle.day.proofs.Plan.{same_rows_refl}
use Rattle.day.proofs.Gap.{cost_agree}
use Rattle.checks.specs.Check.{most_jobs, Accepted}
use Rattle.claim.specs.Claim.{Fit, plan_cost}
use Rattle.fieldday.specs.declared.FieldDay.{FieldDay}
use Rattle.fieldday.specs.Held.{list_held, held_cost, cut_held, day_of, held_at}
use Rattle.fieldday.specs.steps.Sound.{Sound}
use Rattle.fieldday.proofs.Places.{at_zeros, length_zeros}
use Rattle.fieldday.proofs.Days.{first_rows, day_sound}
use Rattle.demands.specs.FieldDay.{HasPlaces}

-- a day that judging doesn't refuse, with all its places
pub record Stands (f : FieldDay) : Type 0 where
  pub places : HasPlaces f
  pub sound : Sound f

-- of a day of n rows, from lists that have so many numbers
pub day_stands : (day : Day) (slot n : ℕ) (releases deadlines starts : List ℕ) → n ≤ length releases → n ≤ length deadlines → {w : Windows}
    → SameRows w (first_rows n releases deadlines) → Accepted day w → Fit w starts → slot ≤ day.slots
    → Stands (day_of day slot n releases deadlines starts)
day_stands day slot n releases deadlines starts begins ends same accepted fit within =
    give (omega (arith, same.count, accepted.rows.count))
    (λ (few : n ≤ most_jobs).
    record {
      places =
          record {
            releases = length_zeros n releases begins few;
            deadlines = length_zeros n deadlines ends few;
            starts = length_zeros n starts (omega (arith, same.count, fit.long)) few;
          };
      sound = day_sound day slot n releases deadlines starts begins ends same accepted fit within;
    })

-- the places of a sound day are enough for its rows
module _ {f : FieldDay} (places : HasPlaces f) (sound : Sound f) where
  pub begins : f.count ≤ length f.releases
  begins = omega (arith, places.releases, sound.accepted.rows.count)

  pub ends : f.count ≤ length f.deadlines
  ends = omega (arith, places.deadlines, sound.accepted.rows.count)

-- the list held, at a slot and with a plan
module _ (f : FieldDay) (slot : ℕ) (starts : List ℕ) where
  pub at_costs : f.count ≤ length starts → held_cost (held_at f slot starts) ≡ plan_cost f.day (list_held f) starts
  at_costs has = cost_agree f.day f.count (at (held_at f slot starts).starts) (at starts) (at_zeros f.count starts has)

  pub at_stands : HasPlaces f → Sound f → Fit (list_held f) starts → slot ≤ f.day.slots → Stands (held_at f slot starts)
  at_stands places sound =
      day_stands f.day slot f.count f.releases f.deadlines starts (begins places sound) (ends places sound)
      (same_rows_refl (list_held f)) sound.accepted

-- a day that is planned anew from its cut list: what is done stays, all else comes later
pub record Replanned (f g : FieldDay) : Type 0 where
  pub slot : g.slot ≡ f.slot
  pub count : f.count ≤ g.count
  pub proper : Proper (cut_held f) (at g.starts)
  pub new : (i : ℕ) → f.count ≤ i → i < g.count → f.slot ≤ at g.starts i
