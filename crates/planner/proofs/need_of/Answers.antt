-- `planner::need_of` meets its contract. Assumes nothing.
use Rattle.planner.specs.Table.{need}
use Rattle.planner.proofs.need_of.Goals as goal

pub returns : goal.returns
unfolding need
returns c = rw c.from-width.ensures
