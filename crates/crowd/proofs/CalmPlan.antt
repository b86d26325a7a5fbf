-- A list without a crowded span has a proper plan: its windows are narrowed until each has one slot. Assumes nothing.
use Prim.Native.Nat.{ℕ, zero, suc, ◌+◌, ◌≤◌, ◌<◌}
use native.Mathlib.Omega.{arith}
use Rattle.day.specs.Windows.{Windows}
use Rattle.day.specs.Plan.{Proper, SomePlan}
use Rattle.day.proofs.Cases.{give, on_le, on_eq}
use Rattle.day.proofs.Plan.{narrower_same, narrower_twice, proper_wider}
use Rattle.day.proofs.Count.{count_two}
use Rattle.crowd.proofs.Inside.{inside_count}
use Rattle.crowd.proofs.Narrowing.{Calm, not_empty, Narrowed, one_less}

-- the windows as they are, and those narrowed twice

as_they_are : {slots : ℕ} (w : Windows) → Calm slots w → Narrowed slots w w
as_they_are w calm = record { narrower = narrower_same w; calm = calm }

twice : {slots : ℕ} {w v u : Windows} → Narrowed slots w v → Narrowed slots v u → Narrowed slots w u
twice n m = record { narrower = narrower_twice m.narrower n.narrower; calm = m.calm }

module _ (slots : ℕ) where
  -- down to one slot, where g more are at hand
  narrowed_row : (g : ℕ) (w : Windows) (k : ℕ) → Calm slots w → k < w.count → w.deadline k ≤ suc (w.release k) + g
      → (v : Windows) × Narrowed slots w v × (v.deadline k ≤ suc (v.release k))
  narrowed_row zero w k calm l h = (w, as_they_are w calm, omega arith)
  narrowed_row (suc g) w k calm l h =
      on_le (w.deadline k) (suc (w.release k)) (λ one. (w, as_they_are w calm, one))
      (λ two.
      give (one_less slots w calm k l two)
      (λ v.
      give (narrowed_row g v.0 k v.1.calm (omega (arith, v.1.narrower.count)) (omega (arith, v.2)))
      (λ u. (u.0, twice v.1 u.1, u.2))))

  narrowed_rows : (w : Windows) → Calm slots w → (m : ℕ) → m ≤ w.count
      → (v : Windows) × Narrowed slots w v × ((i : ℕ) → i < m → v.deadline i ≤ suc (v.release i))
  narrowed_rows w calm zero h = (w, as_they_are w calm, λ i l. absurd (omega arith))
  narrowed_rows w calm (suc m) h =
      give (narrowed_rows w calm m (omega arith))
      (λ v.
      give (narrowed_row (v.0.deadline m) v.0 m v.1.calm (omega (arith, v.1.narrower.count)) (omega arith))
      (λ u. (
        u.0,
        twice v.1 u.1,
        λ i l.
            on_eq i m (λ e. rw e u.2)
            (λ e.
            let within : i < u.0.count = omega (arith, v.1.narrower.count, u.1.narrower.count) in
            omega (arith, v.2 i (omega arith), u.1.narrower.release i within, u.1.narrower.deadline i within)),
      )))

  -- where each window has one slot, that is the job's start
  one_slot_plan : (w : Windows) → Calm slots w → ((i : ℕ) → i < w.count → w.deadline i ≤ suc (w.release i)) → Proper w w.release
  one_slot_plan w calm one =
      record {
        inside = λ i l. (omega arith, omega (arith, not_empty slots w calm i l));
        apart = λ i j l m e.
            on_eq i j (λ z. z)
            (λ other.
            give (inside_count w (w.release i) (suc (w.release i)))
            (λ c.
            give (not_empty slots w calm i l)
            (λ some.
            absurd
            (omega (
              arith,
              count_two i j l m other (omega arith, one i l) (omega arith, omega (arith, one j m)) c.1,
              calm.room (w.release i) (suc (w.release i)) c.0 (omega arith) (omega (arith, calm.in_day i l)) c.1,
            )))));
      }

  pub calm_plan : (w : Windows) → Calm slots w → SomePlan w
  calm_plan w calm =
      give (narrowed_rows w calm w.count (omega arith))
      (λ v. (
        v.0.release,
        proper_wider v.1.narrower
            (one_slot_plan v.0 v.1.calm (λ i l. v.2 i (omega (arith, v.1.narrower.count)))),
      ))
