-- `planner::fill_table` meets its contract: over the prices the engine fills the levels. Assumes nothing.
use mathlib.Core.Path.{sym, ◌∙◌}
use native.Mathlib.Omega.{arith}
use lib.ListN.{get_or-replicate}
use Rattle.planner.specs.steps.Jobs.{planner_none}
use Rattle.planner.proofs.Finished.{room, room_for_prices, priced_small, tabled}
use Rattle.planner.proofs.fill_table.Goals as goal

pub price_level-requires-clause-slots_le_most_slots : goal.price_level-requires-clause-slots_le_most_slots
price_level-requires-clause-slots_le_most_slots c =
    let given = c.requires.lent_square in
    (given.jobs.slots, given.points, given.prepared.bands, room_for_prices given c.args.table.now c.requires.count_in_bounds)

pub fill-requires-clause-count_in_bounds : goal.fill-requires-clause-count_in_bounds
fill-requires-clause-count_in_bounds c =
    let given = c.requires.lent_square in (
      omega (arith, c.requires.count_in_bounds, c.price_level.ensures.long, room given c.args.table.now c.requires.count_in_bounds),
      record {
        long = omega (arith, given.points, given.jobs.slots);
        none = λ e h. get_or-replicate 99 e planner_none 0 (omega (arith, given.points, given.jobs.slots)) ∙ sym given.none;
      },
    )

pub fill-requires-clause-small : goal.fill-requires-clause-small
fill-requires-clause-small c =
    priced_small c.requires.lent_square c.args.table.now c.requires.count_in_bounds _ c.price_level.ensures

pub returns : goal.returns
returns c = tabled c.requires.lent_square c.args.table.now c.requires.count_in_bounds _ c.price_level.ensures _ c.fill.ensures.1
