-- What judging lets pass.
use Rattle.std.specs.Prelude.{◌≤◌}
use Rattle.checks.specs.Check.{Accepted}
use Rattle.claim.specs.Claim.{Fit}
use Rattle.fieldday.specs.declared.FieldDay.{FieldDay}
use Rattle.fieldday.specs.Held.{list_held}

-- a day that judging doesn't refuse
pub record Sound (f : FieldDay) : Type 0 where
  pub accepted : Accepted f.day (list_held f)
  pub fit : Fit (list_held f) f.starts
  pub slot : f.slot ≤ f.day.slots
