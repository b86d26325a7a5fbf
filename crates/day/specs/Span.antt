-- The price of a span as if jobs stood just before it and at its end, over any price of two points.
use Rattle.std.specs.Prelude.{ℕ, zero, suc, ◌+◌, ◌-◌, Bool, cond}

-- over the m slots from x on, where the last job stood just before a and the next after them stands at x + m
unfoldable pub walk : (ℕ → ℕ → ℕ) → (ℕ → Bool) → ℕ → ℕ → ℕ → ℕ
walk price full a x zero = price a x
walk price full a x (suc m) = cond (full x) (price a x + walk price full (suc x) (suc x) m) (walk price full a (suc x) m)

unfoldable pub span : (ℕ → ℕ → ℕ) → (ℕ → Bool) → ℕ → ℕ → ℕ
span price full s e = walk price full s s (e - s)
