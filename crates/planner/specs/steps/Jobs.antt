-- The jobs in number order, as the code has them: points in place of slots, so that releases and deadlines are counted from 1.
use Rattle.std.specs.Prelude.{ℕ, ◌+◌, ◌*◌, ◌≤◌, ◌<◌, ◌≡◌, true, List, length}
use Rattle.day.specs.declared.Day.{Day}
use Rattle.day.specs.Windows.{at, windows}
use Rattle.day.specs.Number.{Numbered}
use Rattle.day.specs.Far.{far_price}
use Rattle.checks.specs.Check.{most_slots, most_wake, most_jobs, Accepted}
use Rattle.rule.specs.Span.{Problem}
use Rattle.engine.specs.Lent.{Lent, Posed, Prepared}

-- stands for "none": more than a plan can cost, and the sum of two still has 15 bits
abbrev pub planner_none : ℕ
planner_none = 16000

-- rows that the checks accept, each at the place of its number
pub record RowsInOrder (day : Day) (releases deadlines order : List ℕ) : Type 0 where
  pub accepted : Accepted day (windows releases deadlines)
  pub all : length order ≡ length releases
  pub numbered : Numbered (length order) (at deadlines) (at order)

-- n jobs within the limits of document 01
pub record WithinLimits (day : Day) (rel dead : List ℕ) (n : ℕ) : Type 0 where
  pub slots : day.slots ≤ most_slots
  pub wake : day.power.wake ≤ most_wake
  pub few : n ≤ most_jobs
  pub releases : n ≤ length rel
  pub deadlines : n ≤ length dead
  pub window : (k : ℕ) → k < n → at rel k < at dead k
  pub in_day : (k : ℕ) → k < n → at dead k ≤ day.slots + 1

-- a problem of the rule that has these jobs, the prices of the day and every start
pub record ProblemOf (day : Day) (rel dead : List ℕ) (n : ℕ) (P : Problem) : Type 0 where
  pub price : (s e : ℕ) → P.price s e ≡ far_price day s e
  pub allowed : (t : ℕ) → P.allowed t ≡ true
  pub none : P.none ≡ planner_none
  pub release : (k : ℕ) → k < n → P.release k ≡ at rel k
  pub deadline : (k : ℕ) → k < n → P.deadline k ≡ at dead k

-- what the engine is lent: n such jobs, and a square of the day's points
pub record LentSquare (day : Day) (G : Lent) (n : ℕ) : Type 0 where
  pub jobs : WithinLimits day G.rel G.dead n
  pub points : G.shape.points ≡ day.slots + 3
  pub level : G.shape.level ≡ (day.slots + 3) * (day.slots + 3)
  pub none : G.shape.none ≡ planner_none
  pub prepared : Prepared G n

-- a problem that what is lent poses, at the prices of the day
pub record PosedAtPrices (day : Day) (G : Lent) (n : ℕ) (P : Problem) : Type 0 where
  pub price : (s e : ℕ) → P.price s e ≡ far_price day s e
  pub posed : Posed P G n
