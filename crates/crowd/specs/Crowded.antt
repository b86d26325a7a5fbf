-- Crowded spans, which show that a list has no proper plan.
use Rattle.std.specs.Prelude.{ℕ, ◌-◌, ◌≤◌, ◌<◌, ◌≡◌}
use Rattle.day.specs.Windows.{Windows}
use Rattle.day.specs.Count.{Count}
use Rattle.crowd.specs.declared.CrowdedSpan.{CrowdedSpan}

-- the whole window of row i is inside the slots begin to end - 1
abbrev pub Inside : Windows → ℕ → ℕ → ℕ → Type 0
Inside w begin end i = (begin ≤ w.release i) × (w.deadline i ≤ end)

-- how many slots a span has
abbrev pub slots_of : CrowdedSpan → ℕ
slots_of span = span.end - span.begin

-- a span of the day that has more jobs inside than slots
pub record Crowded (slots : ℕ) (w : Windows) (span : CrowdedSpan) : Type 0 where
  pub some : span.begin < span.end
  pub in_day : span.end ≤ slots
  pub counted : Count (Inside w span.begin span.end) w.count span.jobs
  pub crowded : slots_of span < span.jobs

-- of these spans the shortest, among those the earliest
pub record Shortest (These : CrowdedSpan → Type 0) (span : CrowdedSpan) : Type 0 where
  pub among : These span
  pub no_shorter : (other : CrowdedSpan) → These other → slots_of span ≤ slots_of other
  pub no_earlier : (other : CrowdedSpan) → These other → slots_of other ≡ slots_of span → span.begin ≤ other.begin

-- the span that is shown
abbrev pub SpanShown : ℕ → Windows → CrowdedSpan → Type 0
SpanShown slots w = Shortest (Crowded slots w)
