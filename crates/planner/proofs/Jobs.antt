-- The laws of the jobs in number order: what is lent to the engine for them, and that it poses their problem. Assumes nothing.
use Prim.Native.Nat.{ℕ, ◌+◌, ◌*◌, ◌-◌, ◌≤◌, ◌<◌}
use mathlib.Core.Path.{◌≡◌, sym, ◌∙◌}
use mathlib.Core.List.{List}
use native.Mathlib.Omega.{arith}
use lib.ListN.{length}
use Rattle.day.specs.declared.Day.{Day}
use Rattle.day.specs.Windows.{at}
use Rattle.day.specs.Changed.{FirstFilled}
use Rattle.day.specs.Far.{far_price}
use Rattle.day.proofs.Cases.{on_eq}
use Rattle.day.proofs.Gap.{price_at_most_wake}
use Rattle.day.proofs.Far.{far_price_start, far_price_end, far_price_inside}
use Rattle.rule.specs.Span.{Problem}
use Rattle.engine.specs.declared.Shape.{Shape}
use Rattle.engine.specs.Places.{square_begins}
use Rattle.engine.specs.Lent.{Lent, lent}
use Rattle.engine.specs.Marks.{MarkedBy}
use Rattle.engine.proofs.Places.{square_fits}
use Rattle.engine.proofs.Marks.{marks_count, marks_counted}
use Rattle.planner.specs.steps.Jobs.{planner_none, WithinLimits, ProblemOf, LentSquare, PosedAtPrices}

pub far_price_bounded : (day : Day) → day.power.wake ≤ planner_none → (s e : ℕ) → far_price day s e ≤ planner_none
far_price_bounded day wake s e =
    on_eq s 0 (λ q. rw q (omega (arith, far_price_start day e)))
    (λ q. on_eq e (day.slots + 2) (λ z. omega (arith, far_price_end day s e z))
    (λ z. omega (arith, far_price_inside day s e q z, price_at_most_wake day.power (e - s))))

-- n jobs in number order, lent to the engine with a square of the day's points
module _ {day : Day} {rel dead : List ℕ} {n : ℕ} (p : WithinLimits day rel dead n) (shape : Shape) (begins₀ begins marks₀ marks : List ℕ)
    (size : (shape.points ≡ day.slots + 3) × (shape.level ≡ (day.slots + 3) * (day.slots + 3)) × (shape.none ≡ planner_none))
    (bands : FirstFilled (day.slots + 3) (λ s y. y ≡ square_begins (day.slots + 3) s) begins₀ begins) (m : MarkedBy rel 0 n marks₀ marks)
    (begins-long : day.slots + 3 ≤ length begins₀) (marks-long : day.slots + 3 ≤ length marks₀) where
  abbrev G : Lent
  G = lent shape begins rel dead marks

  pub given_of : LentSquare day G n
  given_of = record {
    jobs = p;
    points = size.0;
    level = size.1;
    none = size.2;
    prepared = record {
      fits = square_fits (record { points = shape.points; level = shape.level; begins = at begins }) (rw size.0 size.1)
          (λ s h. rw size.0 (bands.inside s (omega (arith, size.0))));
      small_none = omega (arith, size.2);
      bands = omega (arith, size.0, bands.long);
      releases = p.releases;
      deadlines = p.deadlines;
      marked = omega (arith, size.0, m.long);
      window = p.window;
      before_end = λ k h. omega (arith, size.0, p.in_day k h);
    };
  }

  pub asks_of : ((t : ℕ) → t < length marks₀ → 0 < at marks₀ t) → (P : Problem) → ProblemOf day rel dead n P → PosedAtPrices day G n P
  asks_of every P o = record {
    price = o.price;
    posed = record {
      none = o.none ∙ sym size.2;
      release = o.release;
      deadline = o.deadline;
      marked = λ k t h l. marks_count P rel marks₀ marks n m o.release (λ u b c. o.allowed u) k t h (omega (arith, size.0));
      unmarked = λ k t h l. marks_counted P rel marks₀ marks n m o.release (λ u b c. every u b) k t h (omega (arith, size.0));
    };
  }
