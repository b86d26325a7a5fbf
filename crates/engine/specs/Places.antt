-- Where a table keeps what: a level for each number of jobs, in it a band for each point where a span begins, in it a place for each point
-- where it ends. Few proofs open the formulas; all else cites the laws in proofs/Places.antt.
use Rattle.std.specs.Prelude.{ℕ, ◌+◌, ◌*◌, ◌≤◌, ◌<◌, ◌≡◌, List}
use Rattle.engine.specs.declared.Shape.{Shape}
use Rattle.engine.specs.declared.Frame.{Frame}
use Rattle.day.specs.Windows.{at}

-- points are counted from 0; in a level, `begins s` places lie before place 0 of the band of s
pub record Layout : Type 0 where
  pub points : ℕ
  pub level : ℕ
  pub begins : ℕ → ℕ

abbrev pub SpanIn : Layout → ℕ → ℕ → Type 0
SpanIn L s e = (s ≤ e) × (e < L.points)

-- each span has a place of its own in a level
pub record Fits (L : Layout) : Type 0 where
  pub within : (s e : ℕ) → SpanIn L s e → L.begins s + e < L.level
  pub apart : (s e a x : ℕ) → SpanIn L s e → SpanIn L a x → L.begins s + e ≡ L.begins a + x → (s ≡ a) × (e ≡ x)

-- what lies before place e = 0 of the band of s in the level of k jobs
unfoldable pub band : Layout → ℕ → ℕ → ℕ
band L k s = k * L.level + L.begins s

-- the next e is the next place
abbrev pub place : Layout → ℕ → ℕ → ℕ → ℕ
place L k s e = band L k s + e

-- how many places n jobs need
unfoldable pub places_for : Layout → ℕ → ℕ
places_for L n = (n + 1) * L.level

-- as code has it: a list says where the bands begin
abbrev pub layout : Shape → List ℕ → Layout
layout shape begins = record { points = shape.points; level = shape.level; begins = at begins }

-- that of the code's frame
abbrev pub layout_in : Frame → Layout
layout_in p = layout p.shape p.begins.now

-- the square layout, in which every band has a place for each point: what lies before the band of s
abbrev pub square_begins : ℕ → ℕ → ℕ
square_begins points s = s * points

-- the square of so many points is a number of 64 bits
abbrev pub most_points : ℕ
most_points = 65536
