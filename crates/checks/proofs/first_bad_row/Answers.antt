-- `checks::first_bad_row` meets its contract. Assumes nothing.
use Rattle.std.proofs.Common.{rules, inl, inr, ⊎_elim, arith}
use borrow.Author.Count.{below_more}
use Rattle.checks.proofs.first_bad_row.Goals as goal

pub returns-then-release-deadline : goal.returns-then-release-deadline
returns-then-release-deadline c = record {
  within = search rules;
  fault = ⊎_elim (λ h. inl (omega arith)) (λ h. inr (omega arith)) c.then-release-deadline.either;
  lowest = c.loop-row.invariant;
}

pub loop-row-preserved : goal.loop-row-preserved
loop-row-preserved c = below_more _ _ c.loop-row.invariant (⊎_elim (λ z. omega arith) (λ z. omega arith))
