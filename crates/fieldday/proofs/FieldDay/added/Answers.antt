use mathlib.Core.Path.{◌≡◌, refl}
use native.Mathlib.Omega.{arith}
use borrow.Author.Rules.{rules}
use lib.ListN.{length}
use Rattle.checks.specs.Check.{most_jobs}
use Rattle.checks.proofs.Refused.{refused_not_done, given_back}
use Rattle.fieldday.specs.steps.NewRow.{NewRowFits}
use Rattle.fieldday.proofs.Added.{add_refused, add_sound, add_fits, add_unplanned, add_planned}
use Rattle.fieldday.proofs.FieldDay.added.Goals as goal

pub returns-in_err-check_add : goal.returns-in_err-check_add
returns-in_err-check_add c =
    rw (given_back c.from_residual.result c.from_residual.ensures.1)
    (add_refused _ _ _ _ _ (c.in_err-check_add.ensures c.args.table.now refl) (refused_not_done _))

pub replan-requires-clause-sound : goal.replan-requires-clause-sound
replan-requires-clause-sound c =
    add_sound c.args.self.now c.args.job.release c.args.job.deadline c.args.table.now _ (c.in_ok-check_add.ensures c.args.table.now refl) refl

pub replan-requires-clause-new_row_fits : goal.replan-requires-clause-new_row_fits
replan-requires-clause-new_row_fits c = add_fits _ _ _ _ _ (c.in_ok-check_add.ensures c.args.table.now refl) refl

pub returns-in_err-cost : goal.returns-in_err-cost
returns-in_err-cost c =
    rw (given_back c.from_residual-in_err-cost.result c.from_residual-in_err-cost.ensures.1)
    (add_unplanned _ _ _ _ _ (c.in_ok-check_add.ensures c.args.table.now refl) refl _ _ _ c.in_err-cost.ensures (refused_not_done _))

pub with_row-requires : goal.with_row-requires
with_row-requires c =
    let fits : NewRowFits c.args.self.now c.args.job.release c.args.job.deadline c.args.table.now = add_fits _ _ _ _ _ (c.in_ok-check_add.ensures c.args.table.now refl) refl in
    let places : length c.in_ok-cost.starts ≡ most_jobs = search rules in
    (fits.count, omega (arith, fits.count))

pub returns : goal.returns
returns c =
    add_planned _ _ _ _ _ (c.in_ok-check_add.ensures c.args.table.now refl) refl _ _ _ c.in_ok-cost.ensures _ refl c.with_row.ensures
