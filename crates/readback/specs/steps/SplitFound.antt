-- Where a job splits a span, with the values of the two sides.
use Rattle.std.specs.Prelude.{ℕ, ◌+◌, ◌≤◌, ◌<◌, ◌≡◌, List}
use Rattle.day.specs.Windows.{at}
use Rattle.rule.specs.Span.{split}
use Rattle.engine.specs.Places.{Layout, place}
use Rattle.engine.specs.steps.OneMore.{OneMore, layout_for, one_job, value_with}
use Rattle.readback.specs.declared.Split.{Split}

-- the level of k jobs has the values of the two sides
pub record SidesRead (L : Layout) (table : List ℕ) (k s e : ℕ) (r : Split) : Type 0 where
  pub left : r.left ≡ at table (place L k s r.point)
  pub right : r.right ≡ at table (place L k (r.point + 1) e)

-- the job splits the span from s to e, at its release or later; if v is the span's value with the job, and less than `none`, then at its
-- latest best place
pub record SplitFound (J : OneMore) (table : List ℕ) (s e v : ℕ) (r : Split) : Type 0 where
  pub released : J.release ≤ r.point
  pub inside : r.point < e
  pub sides : SidesRead (layout_for J) table J.job s e r
  pub best : v ≡ value_with J table s e → v < J.shape.none → r.point ≡ split (one_job J table) 0 s e
