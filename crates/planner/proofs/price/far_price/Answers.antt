-- `planner::price::far_price` meets its contract: a far end costs a wake. Assumes nothing.
use mathlib.Core.Path.{sym, ◌∙◌}
use borrow.Author.Tests.{eqb-true, eqb-false}
use Rattle.day.proofs.Far.{far_price_start, far_price_end, far_price_inside}
use Rattle.planner.proofs.price.far_price.Goals as goal
use Rattle.planner.proofs.price.far_price.Goals.{then-from-eq0, else-from-eq0}

pub returns-then-to-day : goal.returns-then-to-day
returns-then-to-day c =
    let a = c.args in
    elim c.if-from-eq0.branch [
      | then-from-eq0 w ↦ rw w.if-from-eq0.true (sym (far_price_start a.day a.to))
      | else-from-eq0 w ↦ sym (far_price_end a.day a.from a.to (eqb-true _ _ (sym w.value-is ∙ c.if-to-day.true)))
    ]

pub returns-else-to-day : goal.returns-else-to-day
returns-else-to-day c =
    let a = c.args in
    elim c.if-from-eq0.branch [
      | then-from-eq0 w ↦ absurd (eqb-false _ _ (sym w.value-is ∙ c.if-to-day.false) w.if-from-eq0.true)
      | else-from-eq0 w ↦
          c.price.ensures
          ∙ sym (far_price_inside a.day a.from a.to w.if-from-eq0.false (eqb-false _ _ (sym w.value-is ∙ c.if-to-day.false)))
    ]
