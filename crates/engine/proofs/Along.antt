-- The laws of what runs of stores leave: a store writes one place more, runs join, and what is taken back leaves no trace. Assumes nothing.
use Prim.Native.Nat.{ℕ, ◌+◌, ◌≤◌, ◌<◌}
use mathlib.Core.Path.{◌≡◌, refl, sym, ◌∙◌}
use mathlib.Core.Logic.{inl, inr}
use mathlib.Core.List.{List}
use native.Mathlib.Omega.{arith}
use lib.ListN.{length, set}
use Rattle.day.specs.Windows.{at}
use Rattle.day.specs.Changed.{Changed, Between, itself}
use Rattle.day.proofs.Cases.{on_le, on_eq}
use Rattle.day.proofs.Changed.{changed_one, changed_join, changed_as, changed_unique}
use Rattle.engine.specs.steps.Bands.{HoldsAlong, always}

-- the numbers may be said in another way
pub holds_as : {Index : Type 0} {These : Index → Type 0} {place f g : Index → ℕ} {old new : List ℕ} → ((x : Index) → These x → f x ≡ g x)
    → Changed These place (λ x y. y ≡ f x) old new → Changed These place (λ x y. y ≡ g x) old new
holds_as same = changed_as (λ x t. t) (λ x t. t) (λ x y t q. q ∙ same x t)

module _ {place f : ℕ → ℕ} {lo : ℕ} where
  pub along_more : {e v : ℕ} {old new : List ℕ} → ((x : ℕ) → x < e → place x ≡ place e → ⊥) → lo ≤ e → place e < length old → v ≡ f e
      → HoldsAlong place lo e f old new → HoldsAlong place lo (e + 1) f old (set new (place e) v)
  along_more {e} {v} apart l b q w =
      changed_join {These = Between lo e} {Those = λ x. x ≡ e} (λ x t. on_eq x e inr (λ n. inl (t.0, omega arith)))
      (λ x t. (t.0, omega arith)) (λ x t. (omega arith, omega arith)) (λ x y t u. rw u (apart x t.1)) w
      (changed_one e v (omega (arith, w.long)) q)

  pub along_join : {mid hi : ℕ} {old between new : List ℕ} → ((x y : ℕ) → x < mid → mid ≤ y → place x ≡ place y → ⊥) → lo ≤ mid → mid ≤ hi
      → HoldsAlong place lo mid f old between → HoldsAlong place mid hi f between new → HoldsAlong place lo hi f old new
  along_join {mid} {hi} apart l m =
      changed_join {These = Between lo mid} {Those = Between mid hi} (λ x t. on_le mid x (λ h. inr (h, t.1)) (λ h. inl (t.0, h)))
      (λ x t. (t.0, omega arith)) (λ x t. (omega arith, t.1)) (λ x y t u. apart x y t.1 u.0)

-- what was written and taken back leaves no trace
pub along_undone : {lo hi v : ℕ} {f : ℕ → ℕ} {old between new : List ℕ} → ((e : ℕ) → e < hi → at old e ≡ v)
    → HoldsAlong itself lo hi f old between → HoldsAlong itself lo hi (always v) between new → new ≡ old
along_undone {lo} {hi} {v} {old = old} blank w u =
    changed_unique {Right = λ e y. y ≡ v} {old = old}
    (λ e.
    on_le lo e (λ l. on_le hi e (λ m. inr (λ x t q. omega arith)) (λ m. inl (e, (l, m), refl))) (λ l. inr (λ x t q. omega arith)))
    (λ e y z t p q. p ∙ sym q)
    (record { long = u.long ∙ w.long; inside = u.inside; outside = λ j n. u.outside j n ∙ w.outside j n })
    (record { long = refl; inside = λ e t. blank e t.1; outside = λ j n. refl })
