-- A new row that ends by the current slot leaves no plan; else the columns hold the cut list with the new row, which no check refuses.
use mathlib.Core.Path.{◌≡◌, refl}
use native.Mathlib.Omega.{arith}
use borrow.Author.Rules.{rules}
use lib.ListN.{length}
use Rattle.checks.specs.Refusal.{goes_on}
use Rattle.checks.specs.Check.{most_jobs}
use Rattle.checks.specs.Planned.{none_proper}
use Rattle.checks.proofs.Refused.{given_back, refused_not_done}
use Rattle.checks.proofs.Planned.{never_clear}
use Rattle.fieldday.proofs.CutList.{no_slot_left, cut_replanned, cut_unplanned}
use Rattle.fieldday.proofs.FieldDay.replan.Goals as goal
use Rattle.fieldday.proofs.FieldDay.replan.Goals.{Start}

pub returns-then-job-self : goal.returns-then-job-self
returns-then-job-self c = record {
  answer = goes_on never_clear (none_proper (no_slot_left c.args.self.now _ _ c.if-job-self.true) refl);
  planned = λ e. absurd (omega arith);
  unplanned = λ e. refl;
  cleared = λ e. rw c.places_needed-needed.ensures at c.zero_first.ensures;
  kept = λ d n. absurd (n refl);
}

-- what the type of the field says
places : (c : Start) → length c.args.self.now.starts ≡ most_jobs
places c = search rules

pub returns-in_err-cost : goal.returns-in_err-cost
returns-in_err-cost c =
    rw (given_back c.from_residual.result c.from_residual.ensures.1)
    (cut_unplanned c.requires.sound c.requires.new_row_fits c.if-job-self.false (places (goal.at.returns-in_err-cost c).Start) c.cut_held-cut.ensures
    c.from-last.ensures c.raise.ensures c.in_err-cost.ensures (refused_not_done _))

pub returns : goal.returns
returns c =
    cut_replanned c.requires.sound c.requires.new_row_fits c.if-job-self.false (places (goal.at.returns c).Start) c.cut_held-cut.ensures
    c.from-last.ensures c.raise.ensures c.in_ok-cost.ensures
