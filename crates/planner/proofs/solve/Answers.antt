-- `planner::solve` meets its contract: releases and deadlines are put into number order, and what is found of them is told. Assumes nothing.
use Rattle.planner.proofs.Accepted.{rows_apart, solved}
use Rattle.planner.proofs.solve.Goals as goal

pub tell-requires-clause-by_index_2 : goal.tell-requires-clause-by_index_2
tell-requires-clause-by_index_2 c = rows_apart c.requires.rows_in_order

pub returns : goal.returns
returns c =
    solved c.requires.rows_in_order _ _ c.by_number-rel.ensures c.by_number-dead.ensures _ _ _ c.plan_numbered-found.ensures
    c.args.starts.now _ _ c.tell.ensures
