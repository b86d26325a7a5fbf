-- Of a sound day only the new row and its places are left to check.
use mathlib.Core.Path.{◌≡◌, refl}
use borrow.Author.Rules.{rules}
use lib.ListN.{length}
use Rattle.checks.specs.Refusal.{stops, goes_on}
use Rattle.checks.specs.Check.{most_jobs}
use Rattle.checks.proofs.Refusal.{then_group}
use Rattle.checks.proofs.Refused.{given_back}
use Rattle.fieldday.proofs.Sound.{sound_clear, judged_sound, judged_refused}
use Rattle.fieldday.proofs.NewRow.{new_row_checked}
use Rattle.fieldday.proofs.FieldDay.check_add.Goals as goal
use Rattle.fieldday.proofs.FieldDay.check_add.Goals.{Start}

pub returns-in_err-judge : goal.returns-in_err-judge
returns-in_err-judge c =
    λ table long.
    rw (given_back c.from_residual.result c.from_residual.ensures.1) (stops (stops (judged_refused c.args.self.now _ c.in_err-judge.ensures)))

-- what the type of the field says
places : (c : Start) → length c.args.self.now.starts ≡ most_jobs
places c = search rules

pub returns : goal.returns
returns c =
    λ table long.
    let sound = judged_sound c.args.self.now _ c.in_ok-judge.ensures refl in
    then_group _
    (goes_on (sound_clear sound)
    (new_row_checked sound c.args.job.release c.args.job.deadline table (places (goal.at.returns c).Start) _ (rw long c.check_new.ensures)))
