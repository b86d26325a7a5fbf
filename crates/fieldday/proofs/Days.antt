-- Laws of the days that calls give back: with a new row too the cut list lies inside the list as given, and a day of an accepted list with a fit plan is
-- sound. Assumes nothing.
use Prim.Native.Nat.{ℕ, zero, suc, ◌≤◌}
use mathlib.Core.Path.{◌≡◌, refl, sym}
use mathlib.Core.List.{List, [], ◌∷◌}
use native.Mathlib.Omega.{arith}
use lib.ListN.{length, take}
use Rattle.day.specs.declared.Day.{Day}
use Rattle.day.specs.Windows.{Windows, at, SameRows}
use Rattle.day.proofs.Cases.{give}
use Rattle.day.proofs.Plan.{proper_cong, Narrower}
use Rattle.day.proofs.Joined.{beside_most}
use Rattle.checks.specs.Check.{Accepted}
use Rattle.checks.proofs.Check.{accepted_cong}
use Rattle.claim.specs.Claim.{Fit}
use Rattle.fieldday.specs.declared.FieldDay.{FieldDay}
use Rattle.fieldday.specs.Held.{list_held, held_with, cut_with, with_zeros, day_of}
use Rattle.fieldday.specs.steps.Sound.{Sound}
use Rattle.cutlist.proofs.CutPlan.{raised_above, cut_narrower}
use Rattle.fieldday.proofs.Places.{take_zeros, at_zeros, length_zeros}

first_most : {a b : ℕ} → a ≤ b → (i : ℕ) → at (a ∷ []) i ≤ at (b ∷ []) i
first_most h zero = h
first_most h (suc i) = omega arith

pub cut_with_narrower : (f : FieldDay) (release deadline : ℕ) → Fit (list_held f) f.starts
    → Narrower (cut_with f release deadline) (held_with f release deadline)
cut_with_narrower f release deadline fit =
    give (cut_narrower f.slot (at f.starts) (list_held f) fit.proper)
    (λ n.
    record {
      count = refl;
      release = beside_most f.count 1 _ _ _ _ n.release (λ i l. first_most (raised_above f.slot release) i);
      deadline = beside_most f.count 1 _ _ (at (deadline ∷ [])) (at (deadline ∷ [])) n.deadline (λ i l. omega arith);
    })

-- the first n rows of two lists of numbers
abbrev pub first_rows : ℕ → List ℕ → List ℕ → Windows
first_rows n releases deadlines = record { count = n; release = at (take n releases); deadline = at (take n deadlines) }

-- of a day of n rows, from lists that have so many numbers
module _ (day : Day) (slot n : ℕ) (releases deadlines starts : List ℕ) (begins : n ≤ length releases) (ends : n ≤ length deadlines) where
  pub rows_held : list_held (day_of day slot n releases deadlines starts) ≡ first_rows n releases deadlines
  rows_held = rw (take_zeros n releases begins, take_zeros n deadlines ends)

  pub day_sound : {w : Windows} → SameRows w (first_rows n releases deadlines) → Accepted day w → Fit w starts → slot ≤ day.slots
      → Sound (day_of day slot n releases deadlines starts)
  day_sound {w} same accepted fit within =
      record {
        accepted = rw rows_held (accepted_cong same accepted);
        fit = rw rows_held
            (record {
              long = omega (arith, length_zeros n starts has (omega (arith, same.count, accepted.rows.count)), same.count, accepted.rows.count);
              proper = proper_cong w (first_rows n releases deadlines) (at starts) (at (with_zeros n starts)) same
                  (λ i l. sym (at_zeros n starts has i (omega (arith, same.count)))) fit.proper;
            });
        slot = within;
      }
    where
      has : n ≤ length starts
      has = omega (arith, fit.long, same.count)
