-- The plan read back from the table.
use Rattle.std.specs.Prelude.{ℕ, ◌≤◌, ◌<◌, ◌≡◌, List, length}
use Rattle.day.specs.Changed.{Changed, itself}
use Rattle.rule.specs.Span.{Problem, value, read_back}
use Rattle.engine.specs.Places.{SpanIn, places_for}
use Rattle.engine.specs.Lent.{Lent, layout_of, Prepared, Posed}
use Rattle.engine.specs.Filled.{ValuesHeld, Small}

-- a start is a number of 16 bits
abbrev pub most_starts : ℕ
most_starts = 65536

-- what reading back asks: k jobs, points that are starts, and a table whose levels hold no number above `none`
pub record ReadBackAsks (G : Lent) (table : List ℕ) (k : ℕ) : Type 0 where
  pub prepared : Prepared G k
  pub few_points : G.shape.points ≤ most_starts
  pub room : places_for (layout_of G) k ≤ length table
  pub small : (i : ℕ) → i ≤ k → Small (layout_of G) G.shape.none i table

-- the table has a plan of the problem for the lowest k jobs in the span from s to e
pub record PlanHeld (P : Problem) (G : Lent) (table : List ℕ) (k s e : ℕ) : Type 0 where
  pub posed : Posed P G k
  pub levels : (i : ℕ) → i ≤ k → ValuesHeld P (layout_of G) i table
  pub span : SpanIn (layout_of G) s e
  pub some : value P k s e < P.none

-- job i is one of the lowest k and released in the span from s to e
abbrev pub Among : Problem → ℕ → ℕ → ℕ → ℕ → Type 0
Among P k s e i = (i < k) × (s ≤ P.release i) × (P.release i < e)

-- by number: such jobs have the starts of the plan read back, the others what they had
abbrev pub StartsRead : Problem → ℕ → ℕ → ℕ → List ℕ → List ℕ → Type 0
StartsRead P k s e = Changed (Among P k s e) itself (λ i y. y ≡ read_back P k s e i)
