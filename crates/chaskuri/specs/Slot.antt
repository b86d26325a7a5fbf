-- One slot's record in numbers.
use Rattle.std.specs.Prelude.{ℕ, ◌≡◌, List}
use Rattle.day.specs.declared.Day.{Day}
use Rattle.day.specs.Windows.{Windows}
use Rattle.ledger.specs.declared.Fill.{Fill}
use Rattle.ledger.specs.declared.Fill.TheVariants.{Job, Before, Awake, Asleep, After}
use Rattle.ledger.specs.declared.SlotAnswer.{SlotAnswer}
use Rattle.ledger.specs.Count.{counted_as}
use Rattle.ledger.specs.Promise.{SlotPromise}
use Rattle.chaskuri.specs.declared.numbers.SlotNumbers.{SlotNumbers}

-- the row of the job that fills a slot; 0 where none does
abbrev pub row_in : Fill → ℕ
row_in Before = 0
row_in (Job row) = row
row_in Awake = 0
row_in Asleep = 0
row_in After = 0

-- what fills the slot is named by the ledger's count that it belongs to
abbrev pub in_numbers : SlotAnswer → SlotNumbers
in_numbers shown =
    record {
      answer = shown.answer;
      slot = shown.held.slot;
      filling = counted_as shown.held.fill;
      row = row_in shown.held.fill;
    }

-- the numbers of the slot's record
pub record SlotNumbered (day : Day) (w : Windows) (starts : List ℕ) (asked : ℕ) (numbers : SlotNumbers) : Type 0 where
  pub shown : SlotAnswer
  pub promised : SlotPromise day w starts asked shown
  pub same : numbers ≡ in_numbers shown
