-- What runs of stores leave behind: numbers along a list, and in the bands of a level.
use Rattle.std.specs.Prelude.{ℕ, ◌+◌, ◌≤◌, ◌<◌, min, ◌≡◌, List}
use Rattle.day.specs.Windows.{at}
use Rattle.day.specs.Changed.{Changed, Between}
use Rattle.engine.specs.Places.{Layout, SpanIn, place}

-- new is old, save that the places of lo up to hi hold f
abbrev pub HoldsAlong : (ℕ → ℕ) → ℕ → ℕ → (ℕ → ℕ) → List ℕ → List ℕ → Type 0
HoldsAlong place lo hi f = Changed (Between lo hi) place (λ e y. y ≡ f e)

-- a span that begins from lo on and before hi
abbrev pub BeginsIn : Layout → ℕ → ℕ → ℕ × ℕ → Type 0
BeginsIn L lo hi x = SpanIn L x.0 x.1 × (lo ≤ x.0) × (x.0 < hi)

-- its place in the level of k jobs
abbrev pub span_place : Layout → ℕ → ℕ × ℕ → ℕ
span_place L k x = place L k x.0 x.1

-- new is old, save that the bands of the level of k jobs from lo up to hi hold f
abbrev pub BandsHold : Layout → ℕ → ℕ → ℕ → (ℕ → ℕ → ℕ) → List ℕ → List ℕ → Type 0
BandsHold L k lo hi f = Changed (BeginsIn L lo hi) (span_place L k) (λ x y. y ≡ f x.0 x.1)

-- the places of a band that begins after so many others
abbrev pub offset : ℕ → ℕ → ℕ
offset begin e = begin + e

-- what a list holds along such a band
abbrev pub along : List ℕ → ℕ → ℕ → ℕ
along table begin e = at table (begin + e)

-- sums lowered to a base plus what a band of a table holds, where that is less
abbrev pub lowered : List ℕ → List ℕ → ℕ → ℕ → ℕ → ℕ
lowered sums table begin base e = min (base + at table (begin + e)) (at sums e)

-- no place of the one band is a place of the other
abbrev pub Disjoint : ℕ → ℕ → ℕ → ℕ → Type 0
Disjoint from to lo hi = (x y : ℕ) → Between lo hi x → Between lo hi y → from + x ≡ to + y → ⊥

-- the same number everywhere
abbrev pub always : ℕ → ℕ → ℕ
always v e = v
