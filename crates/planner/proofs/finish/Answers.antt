-- `planner::finish` meets its contract: what is found is found in a filled table, and what is set to zero doesn't matter. Assumes nothing.
use Prim.Native.Nat.{◌+◌, ◌-◌}
use mathlib.Core.Path.{◌≡◌}
use native.Mathlib.Omega.{arith}
use Rattle.planner.proofs.Finished.{table_asks, table_cleared}
use Rattle.planner.proofs.finish.Goals as goal

pub find-found-requires-clause-read_back_asks : goal.find-found-requires-clause-read_back_asks
find-found-requires-clause-read_back_asks c =
    table_asks c.requires.lent_square c.args.table.now c.requires.count_in_bounds _ c.fill_table.ensures

pub returns : goal.returns
returns c =
    let tabled = c.fill_table.ensures in
    let end : c.args.loan.frame.shape.points - 1 ≡ c.args.day.slots + 2 = omega (arith, c.requires.lent_square.points) in (
      λ P a. rw end at (c.find-found.ensures P a.posed (tabled.values P a)),
      table_cleared c.requires.lent_square c.args.table.now c.requires.count_in_bounds _ tabled _ _ c.need_of-needed.ensures
          c.zero_first.ensures,
    )
