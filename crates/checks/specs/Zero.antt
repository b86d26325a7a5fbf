-- A list whose first places are set to zero.
use Rattle.std.specs.Prelude.{ℕ, zero, suc, List, [], ◌∷◌}

-- the first n places, or all of them where there are fewer
unfoldable pub zeroed : ℕ → List ℕ → List ℕ
zeroed zero xs = xs
zeroed (suc n) [] = []
zeroed (suc n) (x ∷ xs) = 0 ∷ zeroed n xs
