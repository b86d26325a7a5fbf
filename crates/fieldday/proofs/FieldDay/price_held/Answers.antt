-- More than 40 rows are refused alike.
use native.Mathlib.Omega.{arith}
use lib.ListN.{replicate}
use Rattle.day.specs.Windows.{windows}
use Rattle.checks.proofs.TooMany.{lists_alike, alike_first}
use Rattle.fieldday.specs.Held.{list_held}
use Rattle.fieldday.proofs.FieldDay.price_held.Goals as goal

pub returns-then-self-gt-MOST_JOBS : goal.returns-then-self-gt-MOST_JOBS
returns-then-self-gt-MOST_JOBS c =
    let f = c.args.self.now in
    let lists = lists_alike (windows (replicate 41 0) (replicate 41 0)) (list_held f) (omega arith) (omega arith) f.day in
    (alike_first (alike_first lists)).same _ c.price.ensures
