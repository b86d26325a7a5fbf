-- `planner::find` meets its contract: the last place of the table's level holds the value, and the engine reads the starts back. Assumes nothing.
use native.Mathlib.Omega.{arith}
use Rattle.planner.proofs.Finished.{whole_there}
use Rattle.planner.proofs.find.Goals as goal

pub value_at-value-requires : goal.value_at-value-requires
value_at-value-requires c =
    (omega (arith, c.requires.count_le_most_jobs.1, c.requires.read_back_asks.prepared.bands), whole_there c.requires.read_back_asks c.requires.count_le_most_jobs.1)
