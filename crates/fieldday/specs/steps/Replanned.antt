-- What planning a cut list comes to: a cost and the starts, or a refusal.
use Rattle.std.specs.Prelude.{ℕ, List, Result, Ok, Err}
use Rattle.checks.specs.declared.Answer.{Answer}
use Rattle.checks.specs.declared.outcome.Refusal.{Refusal}
use Rattle.checks.specs.Answer.{answered_by}

-- the answer that says so
abbrev pub replanned : Result (ℕ × List ℕ) Refusal → Answer
replanned = answered_by (λ planned. planned.0)

-- the starts afterwards; those that there were where no plan is found
abbrev pub starts_after : List ℕ → Result (ℕ × List ℕ) Refusal → List ℕ
starts_after starts (Ok planned) = planned.1
starts_after starts (Err refusal) = starts
