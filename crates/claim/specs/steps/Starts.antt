-- The starts of a claimed plan, for a list that is not refused: judged, and priced.
use Rattle.std.specs.Prelude.{ℕ, List, length}
use Rattle.checks.specs.declared.Answer.{Answer}
use Rattle.day.specs.declared.Day.{Day}
use Rattle.day.specs.declared.Power.{Power}
use Rattle.day.specs.Windows.{Windows, at}
use Rattle.day.specs.Gap.{price, gaps, total}
use Rattle.checks.specs.Refusal.{◌then◌, Passed}
use Rattle.claim.specs.Claim.{StartsCheck, Costs}
use Rattle.claim.specs.Rows.{holds_job, Claimed, RowsBeside}

-- the answer, and the rows in their slots
pub record StartsJudged (w : Windows) (starts : List ℕ) (claimed : Claimed) : Type 0 where
  pub answer : (StartsCheck w starts then Passed) claimed.answer
  pub rows : RowsBeside w starts claimed

-- what the gaps between the jobs cost, by the row in each slot
abbrev pub rows_cost : Power → List ℕ → ℕ
rows_cost power rows = total (price power) (gaps (holds_job (at rows)) 0 (length rows))

abbrev pub PricedStarts : Day → Windows → List ℕ → Answer → Type 0
PricedStarts day w starts = StartsCheck w starts then Costs day w starts
