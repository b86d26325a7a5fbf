-- Laws of plans and the cut list: it lies inside the list and keeps the plan held; and a plan for it leaves what is done, and all else for later.
-- Assumes nothing.
use Prim.Native.Nat.{ℕ, ◌≤◌, ◌<◌}
use mathlib.Core.Path.{◌≡◌, refl}
use native.Mathlib.Omega.{arith}
use Rattle.day.specs.Windows.{Windows}
use Rattle.day.specs.Plan.{Plan, Proper}
use Rattle.day.proofs.Cases.{give, on_le}
use Rattle.day.proofs.Plan.{Narrower}
use Rattle.cutlist.specs.Cut.{raised, cut_list}
use Rattle.cutlist.proofs.CutWindow.{
  raised_lower,
  raised_kept,
  raised_from,
  done_release,
  open_release,
  done_deadline,
  cut_from,
  cut_before,
  cut_within,
}

pub raised_above : (slot release : ℕ) → release ≤ raised slot release
raised_above slot release = on_le slot release (λ h. omega (arith, raised_kept slot release h)) (λ h. omega (arith, raised_lower slot release h))

-- cut by a proper plan, a window lies inside what it was
pub cut_narrower : (slot : ℕ) (start : Plan) (w : Windows) → Proper w start → Narrower (cut_list slot start w) w
cut_narrower slot start w P =
    record {
      count = refl;
      release = λ i l.
          on_le slot (start i) (λ h. omega (arith, open_release slot (start i) (w.release i) h, raised_above slot (w.release i)))
          (λ h. omega (arith, done_release slot (start i) (w.release i) h, P.inside i l));
      deadline = λ i l. cut_within slot (start i) (w.release i) (w.deadline i) (P.inside i l).0 (P.inside i l).1;
    }

-- and it keeps the plan's own start
pub own_proper : (slot : ℕ) (start : Plan) (w : Windows) → Proper w start → Proper (cut_list slot start w) start
own_proper slot start w P =
    record {
      inside = λ i l.
          give (P.inside i l)
          (λ m. (
            cut_from slot (start i) (w.release i) (w.deadline i) m.0 m.1,
            cut_before slot (start i) (w.release i) (w.deadline i) m.0 m.1,
          ));
      apart = P.apart;
    }

-- of a plan that is proper for the cut list
module _ (slot : ℕ) (start : Plan) (w : Windows) {p : Plan} (P : Proper (cut_list slot start w) p) (i : ℕ) (here : i < w.count) where
  pub done_stays : start i < slot → p i ≡ start i
  done_stays h = omega (arith, P.inside i here, done_release slot (start i) (w.release i) h, done_deadline slot (start i) (w.deadline i) h)

  pub open_stays : slot ≤ start i → slot ≤ p i
  open_stays h =
      omega (
        arith,
        P.inside i here,
        open_release slot (start i) (w.release i) h,
        raised_from slot (w.release i),
      )
