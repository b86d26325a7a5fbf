-- How many windows lie inside a span is known, and none lies inside one without slots. Assumes nothing.
use Prim.Native.Nat.{ℕ, ◌≤◌}
use mathlib.Core.Path.{◌≡◌}
use mathlib.Core.Logic.{◌⊎◌, inl, inr}
use native.Mathlib.Omega.{arith}
use Rattle.day.specs.Windows.{Windows}
use Rattle.day.specs.Count.{Count}
use Rattle.day.proofs.Cases.{on_le}
use Rattle.day.proofs.Count.{count_known, count_never}
use Rattle.checks.specs.Check.{GoodRows}
use Rattle.crowd.specs.Crowded.{Inside}

pub inside_known : (w : Windows) (begin end i : ℕ) → Inside w begin end i ⊎ (Inside w begin end i → ⊥)
inside_known w begin end i =
    on_le begin (w.release i)
    (λ h. on_le (w.deadline i) end (λ l. inl (h, l)) (λ l. inr (λ z. omega (arith, z.1))))
    (λ h. inr (λ z. omega (arith, z.0)))

pub inside_count : (w : Windows) (begin end : ℕ) → (c : ℕ) × Count (Inside w begin end) w.count c
inside_count w begin end = count_known w.count (λ i l. inside_known w begin end i)

pub inside_none : {limit slots : ℕ} {w : Windows} {begin end c : ℕ} → GoodRows limit slots w → end ≤ begin → Count (Inside w begin end) w.count c → c ≡ 0
inside_none good l = count_never (λ i h z. omega (arith, good.window i h, z.0, z.1))
