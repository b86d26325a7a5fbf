-- The best plan: proper, none proper is cheaper, and by the tie rule the latest among the cheapest.
use Rattle.std.specs.Prelude.{ℕ, ◌≤◌, ◌<◌, ◌≡◌}
use Rattle.day.specs.declared.Day.{Day}
use Rattle.day.specs.Windows.{Windows}
use Rattle.day.specs.Plan.{Plan, Proper}
use Rattle.day.specs.Number.{Lower}
use Rattle.day.specs.Gap.{cost}

-- p is at least as late as q: the same plan, or later at the highest-numbered row where they differ
pub data AsLate (w : Windows) (p q : Plan) : Type 0 where
  same : ((i : ℕ) → i < w.count → p i ≡ q i) → AsLate w p q
  later : (i : ℕ) → i < w.count → q i < p i → ((j : ℕ) → j < w.count → Lower w.deadline i j → p j ≡ q j) → AsLate w p q

pub record Best (day : Day) (w : Windows) (p : Plan) : Type 0 where
  pub proper : Proper w p
  pub cheapest : (q : Plan) → Proper w q → cost day w.count p ≤ cost day w.count q
  pub latest : (q : Plan) → Proper w q → cost day w.count q ≡ cost day w.count p → AsLate w p q
