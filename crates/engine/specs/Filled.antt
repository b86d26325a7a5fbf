-- What filling leaves in the table.
use Rattle.std.specs.Prelude.{ℕ, ◌≤◌, ◌<◌, ◌≡◌, List, length}
use Rattle.day.specs.Windows.{at}
use Rattle.day.specs.Changed.{OnlyFirst}
use Rattle.rule.specs.Span.{Problem, value}
use Rattle.engine.specs.declared.Shape.{Shape}
use Rattle.engine.specs.Places.{Layout, SpanIn, place, places_for}
use Rattle.engine.specs.Lent.{Lent, layout_of, Posed}

-- the level of k jobs holds the values of the rule
abbrev pub ValuesHeld : Problem → Layout → ℕ → List ℕ → Type 0
ValuesHeld P L k table = (s e : ℕ) → SpanIn L s e → at table (place L k s e) ≡ value P k s e

-- the level of no jobs holds the prices
abbrev pub PricesHeld : Problem → Layout → List ℕ → Type 0
PricesHeld P L table = (s e : ℕ) → SpanIn L s e → at table (place L 0 s e) ≡ P.price s e

-- no number in the level of k jobs is above `none`
abbrev pub Small : Layout → ℕ → ℕ → List ℕ → Type 0
Small L none k table = (s e : ℕ) → SpanIn L s e → at table (place L k s e) ≤ none

-- a band of sums that says "none" for each point
pub record AllNone (shape : Shape) (sums : List ℕ) : Type 0 where
  pub long : shape.points ≤ length sums
  pub none : (e : ℕ) → e < shape.points → at sums e ≡ shape.none

-- the levels up to that of k jobs are filled over the one of no jobs, and what k jobs don't need is as it was
pub record Filled (G : Lent) (k : ℕ) (old new : List ℕ) : Type 0 where
  pub changed : OnlyFirst (places_for (layout_of G) k) old new
  pub small : (i : ℕ) → i ≤ k → Small (layout_of G) G.shape.none i new
  pub values : (P : Problem) → Posed P G k → PricesHeld P (layout_of G) old → (i : ℕ) → i ≤ k → ValuesHeld P (layout_of G) i new
