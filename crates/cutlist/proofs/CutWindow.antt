-- Laws of a cut window: a done job has its slot, another one the part that is left, and a start in the window stays in it. Assumes nothing.
use Prim.Native.Nat.{ℕ, ◌+◌, ◌≤◌, ◌<◌}
use mathlib.Core.Path.{◌≡◌}
use native.Mathlib.Omega.{arith}
use borrow.Author.Tests.{lt-ltb, le-ltb}
use Rattle.day.proofs.Cases.{on_le}
use Rattle.cutlist.specs.Cut.{raised, cut_release, cut_deadline}

module _ (slot release : ℕ) where
  pub raised_lower : release < slot → raised slot release ≡ slot
  unfolding raised
  raised_lower h = rw (lt-ltb release slot h)

  pub raised_kept : slot ≤ release → raised slot release ≡ release
  unfolding raised
  raised_kept h = rw (le-ltb release slot h)

  pub raised_from : slot ≤ raised slot release
  raised_from = on_le slot release (λ h. omega (arith, raised_kept h)) (λ h. omega (arith, raised_lower h))

  pub raised_below : (end : ℕ) → slot < end → release < end → raised slot release < end
  raised_below end h l = on_le slot release (λ k. omega (arith, raised_kept k)) (λ k. omega (arith, raised_lower k))

module _ (slot start number : ℕ) where
  pub done_release : start < slot → cut_release slot start number ≡ start
  unfolding cut_release
  done_release h = rw (lt-ltb start slot h)

  pub open_release : slot ≤ start → cut_release slot start number ≡ raised slot number
  unfolding cut_release
  open_release h = rw (le-ltb start slot h)

  pub done_deadline : start < slot → cut_deadline slot start number ≡ start + 1
  unfolding cut_deadline
  done_deadline h = rw (lt-ltb start slot h)

  pub open_deadline : slot ≤ start → cut_deadline slot start number ≡ number
  unfolding cut_deadline
  open_deadline h = rw (le-ltb start slot h)

-- a start in a window
module _ (slot start release deadline : ℕ) (from : release ≤ start) (before : start + 1 ≤ deadline) where
  pub cut_from : cut_release slot start release ≤ start
  cut_from =
      on_le slot start (λ h. omega (arith, open_release slot start release h, raised_below slot release (start + 1) (omega arith) (omega arith)))
      (λ h. omega (arith, done_release slot start release h))

  pub cut_before : start + 1 ≤ cut_deadline slot start deadline
  cut_before =
      on_le slot start (λ h. omega (arith, open_deadline slot start deadline h)) (λ h. omega (arith, done_deadline slot start deadline h))

  pub cut_within : cut_deadline slot start deadline ≤ deadline
  cut_within =
      on_le slot start (λ h. omega (arith, open_deadline slot start deadline h)) (λ h. omega (arith, done_deadline slot start deadline h))
