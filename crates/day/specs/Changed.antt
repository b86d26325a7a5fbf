-- Lists that are changed in some places and nowhere else.
use Rattle.std.specs.Prelude.{ℕ, ◌≤◌, ◌<◌, ◌≡◌, List, length}
use Rattle.day.specs.Windows.{at}

-- new is old, save that the place of each of these holds a number that is right for it
pub record Changed {Index : Type 0} (These : Index → Type 0) (place : Index → ℕ) (Right : Index → ℕ → Type 0) (old new : List ℕ) : Type 0 where
  pub long : length new ≡ length old
  pub inside : (x : Index) → These x → Right x (at new (place x))
  pub outside : (j : ℕ) → ((x : Index) → These x → j ≡ place x → ⊥) → at new j ≡ at old j

-- where a place is its own index
abbrev pub itself : ℕ → ℕ
itself i = i

-- the first n places
abbrev pub Below : ℕ → ℕ → Type 0
Below n i = i < n

-- from lo on and before hi
abbrev pub Between : ℕ → ℕ → ℕ → Type 0
Between lo hi e = (lo ≤ e) × (e < hi)

-- new is old with each of the first n places filled by a number that is right for it
abbrev pub FirstFilled : ℕ → (ℕ → ℕ → Type 0) → List ℕ → List ℕ → Type 0
FirstFilled n Right = Changed (Below n) itself Right

-- new is old, save the first n places
abbrev pub OnlyFirst : ℕ → List ℕ → List ℕ → Type 0
OnlyFirst n = FirstFilled n (λ i y. Unit {0})
