-- The five counts of the ledger: how many slots of the day are filled so.
use Rattle.std.specs.Prelude.{ℕ, ◌≡◌}
use Rattle.day.specs.Count.{Count}
use Rattle.ledger.specs.declared.Fill.{Fill}
use Rattle.ledger.specs.declared.Fill.TheVariants.{Job, Before, Awake, Asleep, After}
use Rattle.ledger.specs.declared.Counts.{Counts}
use Rattle.ledger.specs.Sleep.{SleepTest}
use Rattle.ledger.specs.Fills.{Fills}

-- the count, in document 01's order, that a slot so filled belongs to
abbrev pub counted_as : Fill → ℕ
counted_as Before = 0
counted_as (Job row) = 1
counted_as Awake = 2
counted_as Asleep = 3
counted_as After = 4

-- what fills slot t belongs to count k
pub record CountedAs (test : SleepTest) (slots : ℕ) (row : ℕ → ℕ) (k t : ℕ) : Type 0 where
  pub fill : Fill
  pub fills : Fills test slots row t fill
  pub here : counted_as fill ≡ k

-- of the slots of the day, the five counts
pub record Counted (test : SleepTest) (slots : ℕ) (row : ℕ → ℕ) (counts : Counts) : Type 0 where
  pub before : Count (CountedAs test slots row 0) slots counts.before
  pub job : Count (CountedAs test slots row 1) slots counts.job
  pub awake : Count (CountedAs test slots row 2) slots counts.awake
  pub asleep : Count (CountedAs test slots row 3) slots counts.asleep
  pub after : Count (CountedAs test slots row 4) slots counts.after
