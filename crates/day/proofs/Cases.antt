-- Case distinctions: what a test says, and proofs that go by a test. Assumes nothing.
use Prim.Native.Nat.{ℕ, zero, suc, ◌≤◌, ◌<◌}
use mathlib.Core.Path.{◌≡◌, refl, sym}
use mathlib.Core.Bool.{Bool, true, false, ◌&&◌, ◌||◌}
use mathlib.Core.Logic.{◌⊎◌, inl, inr, ⊎_elim}
use native.Mathlib.Omega.{arith}
use lib.Dec.{leb, eqb}
use borrow.Author.Tests.{leb-true, leb-false, eqb-true, eqb-false}

-- use a value as an unknown, so that its proof is not copied into the goals
pub give : {A C : Type 0} → A → (A → C) → C
give a f = f a

-- by cases on a test, keeping the equation
pub on : {C : Type 0} (b : Bool) → (b ≡ true → C) → (b ≡ false → C) → C
on true f g = f refl
on false f g = g refl

pub on_le : {C : Type 0} (a b : ℕ) → (a ≤ b → C) → (b < a → C) → C
on_le a b f g = on (leb a b) (λ h. f (leb-true a b h)) (λ h. g (leb-false a b h))

pub on_eq : {C : Type 0} (a b : ℕ) → (a ≡ b → C) → ((a ≡ b → ⊥) → C) → C
on_eq a b f g = on (eqb a b) (λ h. f (eqb-true a b h)) (λ h. g (eqb-false a b h))

pub not_both : {b : Bool} → b ≡ true → b ≡ false → ⊥
not_both {b} p q = let z : ◌≡◌ {A = ℕ} 0 1 = cc in omega arith

pub bool_ext : (a b : Bool) → (a ≡ true → b ≡ true) → (b ≡ true → a ≡ true) → a ≡ b
bool_ext true true f g = refl
bool_ext true false f g = sym (f refl)
bool_ext false true f g = g refl
bool_ext false false f g = refl

pub and_left : (a b : Bool) → (a && b) ≡ true → a ≡ true
and_left true b h = refl
and_left false b h = h

pub and_right : (a b : Bool) → (a && b) ≡ true → b ≡ true
and_right true b h = h
and_right false b h = absurd (not_both h refl)

pub and_intro : (a b : Bool) → a ≡ true → b ≡ true → (a && b) ≡ true
and_intro a b p q = rw (p, q)

pub or_cases : (a b : Bool) → (a || b) ≡ true → (a ≡ true) ⊎ (b ≡ true)
or_cases true b h = inl refl
or_cases false b h = inr h

pub or_left : (a b : Bool) → a ≡ true → (a || b) ≡ true
or_left a b p = rw p

pub or_right : (a b : Bool) → b ≡ true → (a || b) ≡ true
or_right true b p = refl
or_right false b p = p

-- some index below m passes, or none does
pub find : (p : ℕ → Bool) (m : ℕ) → ((i : ℕ) × (i < m) × (p i ≡ true)) ⊎ ((i : ℕ) → i < m → p i ≡ false)
find p zero = inr (λ i h. absurd (omega arith))
find p (suc m) =
    on (p m) (λ e. inl (m, omega arith, e))
    (λ e.
    ⊎_elim (λ w. inl (w.0, omega (arith, w.1), w.2))
    (λ n. inr (λ i h. on_eq i m (λ q. rw q e) (λ q. n i (omega arith))))
    (find p m))
