-- Counting.
use Rattle.std.specs.Prelude.{ℕ, suc}

-- of the numbers below m, c have the property
pub data Count (P : ℕ → Type 0) : ℕ → ℕ → Type 0 where
  counted_none : Count P 0 0
  counted : {m c : ℕ} → Count P m c → P m → Count P (suc m) (suc c)
  passed_over : {m c : ℕ} → Count P m c → (P m → ⊥) → Count P (suc m) c
