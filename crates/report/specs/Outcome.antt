-- What planning a file gives, a refusal or not, as one record.
use Rattle.std.specs.Prelude.{ℕ}
use Rattle.checks.specs.declared.Answer.{Answer}
use Rattle.ledger.specs.declared.Counts.{Counts}

-- the answer, and beside the starts the number of jobs and the ledger
pub record Outcome : Type 0 where
  pub answer : Answer
  pub count : ℕ
  pub counts : Counts
