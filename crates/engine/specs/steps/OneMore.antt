-- A level on the way: how it follows from the level below, and which of its bands are there.
use Rattle.std.specs.Prelude.{ℕ, ◌+◌, ◌≤◌, ◌<◌, List, length, ltb}
use Rattle.day.specs.Windows.{at}
use Rattle.rule.specs.Span.{Problem, value}
use Rattle.engine.specs.declared.Shape.{Shape}
use Rattle.engine.specs.declared.NextJob.{NextJob}
use Rattle.engine.specs.Places.{Layout, Fits, place, places_for, layout}
use Rattle.engine.specs.Lent.{Lent, most_none}
use Rattle.engine.specs.Filled.{Small}
use Rattle.engine.specs.steps.Bands.{HoldsAlong, BandsHold}

-- what one job more takes beside the table: its shape, where its bands begin, the marks, the job's number and its window
pub record OneMore : Type 0 where
  pub shape : Shape
  pub begins : List ℕ
  pub marks : List ℕ
  pub job : ℕ
  pub release : ℕ
  pub deadline : ℕ

abbrev pub one_more : Shape → List ℕ → List ℕ → ℕ → ℕ → ℕ → OneMore
one_more shape begins marks job release deadline =
    record { shape = shape; begins = begins; marks = marks; job = job; release = release; deadline = deadline }

-- job k of those that are lent
abbrev pub more_of : Lent → ℕ → OneMore
more_of G k = one_more G.shape G.begins G.marks k (at G.rel k) (at G.dead k)

-- the job that the code has
abbrev pub more_in : NextJob → OneMore
more_in j = one_more j.frame.shape j.frame.begins.now j.marks.now j.job j.release j.deadline

abbrev pub layout_for : OneMore → Layout
layout_for J = layout J.shape J.begins

-- the job over the level of those below it, as a problem of one job: that level has the prices, and the marks say where the job may split
abbrev pub one_job : OneMore → List ℕ → Problem
one_job J table =
    record {
      price = λ s e. at table (place (layout_for J) J.job s e);
      allowed = λ t. ltb J.job (at J.marks t);
      none = J.shape.none;
      release = λ i. J.release;
      deadline = λ i. J.deadline;
    }

-- the value of the span from s to e with the job, by the level below
abbrev pub value_with : OneMore → List ℕ → ℕ → ℕ → ℕ
value_with J table = value (one_job J table) 1

-- there is a place in the table for each span of the level of k jobs and of the next
pub record Copyable (L : Layout) (begun k : ℕ) (table : List ℕ) : Type 0 where
  pub fits : Fits L
  pub bands : L.points ≤ begun
  pub room : places_for L (k + 1) ≤ length table

-- the level below the job has no number above `none`, and there is room for the next
pub record Fillable (J : OneMore) (table : List ℕ) : Type 0 where
  pub fits : Fits (layout_for J)
  pub small_none : J.shape.none ≤ most_none
  pub bands : J.shape.points ≤ length J.begins
  pub marked : J.shape.points ≤ length J.marks
  pub window : J.release < J.deadline
  pub before_end : J.deadline < J.shape.points
  pub room : places_for (layout_for J) (J.job + 1) ≤ length table
  pub small : Small (layout_for J) J.shape.none J.job table

-- new is old, save that the band from s of the level with the job is there
abbrev pub BandAdded : OneMore → ℕ → List ℕ → List ℕ → Type 0
BandAdded J s old new = HoldsAlong (place (layout_for J) (J.job + 1) s) s J.shape.points (value_with J old s) old new

-- and so are the bands up to hi
abbrev pub BandsAdded : OneMore → ℕ → List ℕ → List ℕ → Type 0
BandsAdded J hi old new = BandsHold (layout_for J) (J.job + 1) 0 hi (value_with J old) old new
