-- Laws of a numbering of rows, and the plan of the rows that starts by number make. Assumes nothing.
use Prim.Native.Nat.{ℕ, suc, ◌-◌, ◌≤◌, ◌<◌}
use mathlib.Core.Path.{◌≡◌, refl, sym, ◌∙◌, ap}
use native.Mathlib.Omega.{arith}
use Rattle.day.specs.Plan.{Plan}
use Rattle.day.specs.Number.{Lower, Numbered}
use Rattle.day.proofs.Cases.{give, on_le, on_eq}
use Rattle.day.proofs.Number.{lower_irreflexive, lower_transitive, numbered_apart}
use Rattle.rule.specs.Whole.{ByNumber}

module _ (count : ℕ) (deadline row : ℕ → ℕ) (N : Numbered count deadline row) where
  -- of two rows the lower has the lower number
  pub lower_number : (k l : ℕ) → k < count → l < count → Lower deadline (row k) (row l) → k < l
  lower_number k l h b w =
      on_le (suc k) l (λ m. m)
      (λ m.
      absurd (lower_irreflexive deadline (row k)
      (on_eq k l (λ q. rw (← q) at w)
      (λ q. lower_transitive deadline (row k) (row l) (row k) w (N.rising l k (omega arith) h)))))

  -- at a row, what b has at its number
  at_row : (b : ℕ → ℕ) (i : ℕ) → (x : ℕ) × ((k : ℕ) → k < count → row k ≡ i → x ≡ b k)
  at_row b i =
      on_le (suc i) count
      (λ h.
      give (N.each i h) (λ n. (b n.0, λ k l e. ap b (numbered_apart count deadline row N n.0 k n.1 l (n.2 ∙ sym e)))))
      (λ h. (0, λ k l e. absurd (omega (arith, N.within k l))))

  -- starts by number, each counted from 1, are those of a plan
  pub plan_by_number : (b : ℕ → ℕ) → ((k : ℕ) → k < count → 1 ≤ b k) → (p : Plan) × ByNumber count row p b
  plan_by_number b h = (λ i. (at_row b i).0 - 1, λ k l. omega (arith, h k l, (at_row b (row k)).1 k l refl))
