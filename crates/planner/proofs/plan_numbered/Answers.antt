-- `planner::plan_numbered` meets its contract: what it lends the engine poses the problem of the jobs. Assumes nothing.
use Prim.Native.Nat.{ℕ, ◌+◌, ◌*◌}
use mathlib.Core.Path.{◌≡◌}
use native.Mathlib.Omega.{arith}
use lib.ListN.{get_or-replicate}
use Rattle.engine.specs.Lent.{Lent, lent}
use Rattle.rule.specs.Span.{Problem}
use Rattle.planner.specs.steps.Jobs.{planner_none, ProblemOf, LentSquare, PosedAtPrices}
use Rattle.planner.proofs.Jobs.{given_of, asks_of}
use Rattle.planner.proofs.plan_numbered.Goals as goal
use Rattle.planner.proofs.plan_numbered.Goals.{After-shape_of}

pub mark_releases-requires-clause-by_index_2 : goal.mark_releases-requires-clause-by_index_2
mark_releases-requires-clause-by_index_2 c = λ t h u.
    omega (arith, c.requires.within_limits.few, get_or-replicate {A = ℕ} 99 t 40 0 (omega arith))

-- once the table is laid out
module _ (c : After-shape_of) where
  abbrev lists : Lent
  lists = lent c.shape_of.result c.begin_bands.new.begins c.args.rel.now c.args.dead.now c.mark_releases.new.marks

  size : (c.shape_of.result.points ≡ c.args.day.slots + 3)
      × (c.shape_of.result.level ≡ (c.args.day.slots + 3) * (c.args.day.slots + 3))
      × (c.shape_of.result.none ≡ planner_none)
  size = rw c.from-points.ensures at c.shape_of.ensures

  given : LentSquare c.args.day lists c.args.count
  given =
      given_of c.requires.within_limits _ _ _ _ _ size (rw c.from-points.ensures at c.begin_bands.ensures) c.mark_releases.ensures
      (omega (arith, c.requires.within_limits.slots)) (omega (arith, c.requires.within_limits.slots))

  asks : (P : Problem) → ProblemOf c.args.day c.args.rel.now c.args.dead.now c.args.count P → PosedAtPrices c.args.day lists c.args.count P
  asks =
      asks_of c.requires.within_limits _ _ _ _ _ size (rw c.from-points.ensures at c.begin_bands.ensures) c.mark_releases.ensures
      (omega (arith, c.requires.within_limits.slots)) (omega (arith, c.requires.within_limits.slots))
      (λ t h. omega (arith, get_or-replicate {A = ℕ} 99 t 40 0 (omega arith)))

pub finish-requires-clause-lent_square : goal.finish-requires-clause-lent_square
finish-requires-clause-lent_square c = given (goal.at.finish-requires-clause-lent_square c).After-shape_of

pub returns : goal.returns
returns c = (λ P o. c.finish.ensures.0 P (asks (goal.at.returns c).After-shape_of P o), c.finish.ensures.1)
