-- What fills a slot. The plan is given by the row that stands in each slot, counted from 1; 0 where none does. A sleep test says which gaps are
-- asleep.
use Rattle.std.specs.Prelude.{ℕ, ◌+◌, ◌≤◌, ◌<◌, ◌≡◌, true, false}
use Rattle.day.specs.Gap.{Gap}
use Rattle.claim.specs.Rows.{holds_job}
use Rattle.ledger.specs.declared.Fill.{Fill}
use Rattle.ledger.specs.declared.Fill.TheVariants.{Job, Before, Awake, Asleep, After}
use Rattle.ledger.specs.Sleep.{SleepTest}

abbrev pub Empty : (ℕ → ℕ) → ℕ → Type 0
Empty row t = row t ≡ 0

abbrev pub Busy : (ℕ → ℕ) → ℕ → Type 0
Busy row t = row t ≡ 0 → ⊥

-- slot t lies in a gap of g slots
pub record InGap (slots : ℕ) (row : ℕ → ℕ) (t g : ℕ) : Type 0 where
  pub from : ℕ
  pub gap : Gap (holds_job row) slots from g
  pub begun : from ≤ t
  pub not_over : t < from + g

pub data Fills (test : SleepTest) (slots : ℕ) (row : ℕ → ℕ) (t : ℕ) : Fill → Type 0 where
  by_job : Busy row t → Fills test slots row t (Job (row t))
  -- no job up to t: before the first, or there is none
  before_first : ((u : ℕ) → u ≤ t → Empty row u) → Fills test slots row t Before
  -- a job before t, and none from then on
  after_last : (last : ℕ) → last < t → Busy row last → ((u : ℕ) → last < u → u < slots → Empty row u) → Fills test slots row t After
  in_awake : (g : ℕ) → InGap slots row t g → test g ≡ false → Fills test slots row t Awake
  in_asleep : (g : ℕ) → InGap slots row t g → test g ≡ true → Fills test slots row t Asleep
