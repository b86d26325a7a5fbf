-- Two lists side by side: which slots the joined list takes. Assumes nothing.
use Prim.Native.Nat.{ℕ, ◌+◌}
use mathlib.Core.Path.{◌≡◌}
use mathlib.Core.Logic.{◌⊎◌, inl, inr, ⊎_elim}
use native.Mathlib.Omega.{arith}
use Rattle.day.specs.Plan.{Plan, taken}
use Rattle.day.specs.Joined.{following}
use Rattle.day.proofs.Plan.{Taker, taken_same}
use Rattle.day.proofs.Joined.{on_row}

-- a slot that the joined list takes is taken by the first list or by the second
module _ (n m : ℕ) (r : Plan) (t : ℕ) where
  taken_parts : Taker (n + m) r t → Taker n r t ⊎ Taker m (following n r) t
  taken_parts w =
      on_row (λ i. r i ≡ t → Taker n r t ⊎ Taker m (following n r) t) n m w.row w.below
      (λ i l e. inl (record { row = i; below = l; at = e }))
      (λ k l e. inr (record { row = k; below = l; at = e })) w.at

  pub taken_first : (Taker m (following n r) t → ⊥) → taken (n + m) r t ≡ taken n r t
  taken_first none =
      taken_same (n + m) n r r t t (λ w. ⊎_elim (λ u. u) (λ u. absurd (none u)) (taken_parts w))
      (λ w. record { row = w.row; below = omega arith; at = w.at })

  pub taken_following : (Taker n r t → ⊥) → taken (n + m) r t ≡ taken m (following n r) t
  taken_following none =
      taken_same (n + m) m r (following n r) t t (λ w. ⊎_elim (λ u. absurd (none u)) (λ u. u) (taken_parts w))
      (λ w. record { row = n + w.row; below = omega arith; at = w.at })
