-- Why there is no plan: document 02's T-04. A list has a crowded span exactly if it has no proper plan; the one shown is the shortest, among those
-- the earliest; and it is shown exactly where the planner answers 7. No wake cost is in these words, so all holds for every L.
use Rattle.std.specs.Prelude.{ℕ, ◌-◌, ◌≤◌, ◌<◌, ◌≡◌, ◌⊎◌, ◌↔◌}
use Rattle.day.specs.Windows.{Windows}
use Rattle.day.specs.Plan.{SomePlan, NoPlan}
use Rattle.day.specs.Count.{Count}
use Rattle.checks.specs.Answer.{says, done, no_plan, plan_exists}
use Rattle.checks.specs.Check.{GoodRows}
use Rattle.crowd.specs.declared.CrowdedSpan.{CrowdedSpan}
use Rattle.crowd.specs.declared.CrowdAnswer.{CrowdAnswer}
use Rattle.crowd.specs.Crowded.{Inside, slots_of, Crowded, SpanShown}
use Rattle.crowd.specs.Promise.{CrowdPromise}
use Rattle.demands.specs.Run.{Run, list, Promised, Admitted}

abbrev pub SomeCrowded : ℕ → Windows → Type 0
SomeCrowded slots w = (span : CrowdedSpan) × Crowded slots w span

pub record Explained (slots : ℕ) (w : Windows) : Type 0 where
  pub exactly : NoPlan w ↔ SomeCrowded slots w
  -- and a list that has none has a plan
  pub either : SomePlan w ⊎ SomeCrowded slots w
  -- then one span is to be shown, and only one
  pub shown : SomeCrowded slots w → (span : CrowdedSpan) × SpanShown slots w span
  pub only : (span other : CrowdedSpan) → SpanShown slots w span → SpanShown slots w other → span ≡ other
  -- a span has a < b ≤ T, and nothing is lost by asking that: whatever a and b have more than b - a jobs inside, a span that is no longer is crowded
  pub in_day : (span : CrowdedSpan) → Crowded slots w span → (span.begin < span.end) × (span.end ≤ slots)
  pub any_numbers : (a b jobs : ℕ) → Count (Inside w a b) w.count jobs → b - a < jobs
      → (span : CrowdedSpan) × Crowded slots w span × (slots_of span ≤ b - a)

-- every list whose windows have r < d ≤ T, whatever T is and however many rows there are
abbrev pub CrowdedExactly : Type 0
CrowdedExactly = (limit slots : ℕ) (w : Windows) → GoodRows limit slots w → Explained slots w

-- a run of the planner, and what is answered for its list on a day of as many slots
pub record AnsweredWhy (run : Run) (why : CrowdAnswer) : Type 0 where
  pub seven : run.answer.code ≡ no_plan → why.answer ≡ says done 0 0
  pub planned : run.answer.code ≡ done → why.answer ≡ says plan_exists 0 0
  pub only_seven : Admitted run → why.answer.code ≡ done → run.answer.code ≡ no_plan
  pub only_planned : Admitted run → why.answer.code ≡ plan_exists → run.answer.code ≡ done

abbrev pub AnswersWhy : Type 0
AnswersWhy = (run : Run) (why : CrowdAnswer) → Promised run → CrowdPromise run.day.slots (list run) why → AnsweredWhy run why
