-- The tie rule leaves one best plan; it moves as its windows do, and only the rows matter to it. Assumes nothing.
use Prim.Native.Nat.{ℕ, ◌+◌, ◌-◌, ◌<◌}
use mathlib.Core.Path.{◌≡◌, sym}
use mathlib.Core.Logic.{⊎_elim, inl, inr}
use native.Mathlib.Omega.{arith}
use Rattle.day.specs.declared.Day.{Day}
use Rattle.day.specs.Windows.{SameRows, Windows}
use Rattle.day.specs.Plan.{Plan, Proper}
use Rattle.day.specs.Number.{Lower}
use Rattle.day.specs.Gap.{cost}
use Rattle.day.specs.Best.{AsLate, same, later, Best}
use Rattle.day.proofs.Cases.{give, on_eq}
use Rattle.day.proofs.Plan.{Offset, OffsetPlan, offset_turned, offset_plan_turned, proper_offset, offset_proper, same_rows_offset}
use Rattle.day.proofs.Gap.{cost_agree}
use Rattle.day.proofs.Number.{lower_total}

-- two plans, each as late as the other, are the same plan
pub as_late_antisymmetric : (w : Windows) (p q : Plan) → AsLate w p q → AsLate w q p
    → (i : ℕ) → i < w.count → p i ≡ q i
as_late_antisymmetric w p q (same f) b i l = f i l
as_late_antisymmetric w p q (later j h d f) (same g) i l = sym (g i l)
as_late_antisymmetric w p q (later j h d f) (later k n e g) i l =
    on_eq j k (λ z. absurd (omega (arith, rw z at d)))
    (λ z.
    ⊎_elim (λ (x : Lower w.deadline j k). absurd (omega (arith, f k n x)))
    (λ (x : Lower w.deadline k j). absurd (omega (arith, g j h x))) (lower_total w.deadline j k z))

pub best_costs : (day : Day) (w : Windows) (p q : Plan) → Best day w p → Best day w q
    → cost day w.count p ≡ cost day w.count q
best_costs day w p q a b = omega (arith, a.cheapest q b.proper, b.cheapest p a.proper)

-- exactly one plan is right
pub best_unique : (day : Day) (w : Windows) (p q : Plan) → Best day w p → Best day w q
    → (i : ℕ) → i < w.count → p i ≡ q i
best_unique day w p q a b =
    as_late_antisymmetric w p q (a.latest q b.proper (best_costs day w q p b a))
    (b.latest p a.proper (best_costs day w p q a b))

lower_offset : (a b : ℕ) (w v : Windows) → Offset a b w v → (i j : ℕ) → i < w.count → j < w.count
    → Lower v.deadline i j
    → Lower w.deadline i j
lower_offset a b w v o i j l m =
    give (o.deadline i l)
    (λ x.
    give (o.deadline j m) (λ y. ⊎_elim (λ z. inl (omega arith)) (λ z. inr (omega (arith, z.0), z.1))))

-- moved alike, the later plan stays the later one
pub as_late_offset : (a b : ℕ) (w v : Windows) (p q r s : Plan) → Offset a b w v
    → OffsetPlan a b w.count p q
    → OffsetPlan a b w.count r s
    → AsLate w p r
    → AsLate v q s
as_late_offset a b w v p q r s o f g (same e) =
    same (λ i l. let k : i < w.count = omega arith in omega (arith, f i k, g i k, e i k))
as_late_offset a b w v p q r s o f g (later i l d e) =
    later i (omega arith) (omega (arith, f i l, g i l))
    (λ j m above.
    let k : j < w.count = omega arith in
    omega (arith, f j k, g j k, e j k (lower_offset a b w v o i j l k above)))

-- a best plan, moved as the windows are, is best where its cost and those of others are kept
pub best_offset : (day : Day) (a b : ℕ) (w v : Windows) (p q : Plan) → Offset a b w v
    → OffsetPlan a b w.count p q
    → ((r s : Plan) → Proper w r → Proper v s → OffsetPlan a b w.count r s
    → cost day w.count r ≡ cost day v.count s)
    → Best day w p
    → Best day v q
best_offset day a b w v p q o f keeps best =
    give (proper_offset a b w v p q o f best.proper)
    (λ proper.
    record {
      proper = proper;
      cheapest = λ s h. omega (arith, keeps p q best.proper proper f, kept s h, best.cheapest (back s) (ready s h));
      latest = λ s h e.
          as_late_offset a b w v p q (back s) s o f (back_offset s h)
          (best.latest (back s) (ready s h) (omega (arith, keeps p q best.proper proper f, kept s h)));
    })
  where
    back : Plan → Plan
    back s i = s i + b - a

    back_offset : (s : Plan) → Proper v s → OffsetPlan a b w.count (back s) s
    back_offset s h = offset_plan_turned b a v w s (back s) (offset_turned a b w v o) (offset_proper b a v w s (offset_turned a b w v o) h)

    ready : (s : Plan) → Proper v s → Proper w (back s)
    ready s h = proper_offset b a v w s (back s) (offset_turned a b w v o) (offset_proper b a v w s (offset_turned a b w v o) h) h

    kept : (s : Plan) → Proper v s → cost day w.count (back s) ≡ cost day v.count s
    kept s h = keeps (back s) s (ready s h) h (back_offset s h)

pub cost_cong : (day : Day) (w v : Windows) (p q : Plan) → SameRows w v → ((i : ℕ) → i < w.count → p i ≡ q i)
    → cost day w.count p ≡ cost day v.count q
cost_cong day w v p q a f = rw a.count (cost_agree day w.count p q f)

-- only the rows of the windows and the starts of those rows matter
pub best_cong : (day : Day) (w v : Windows) (p q : Plan) → SameRows w v → ((i : ℕ) → i < w.count → p i ≡ q i)
    → Best day w p
    → Best day v q
best_cong day w v p q a f =
    best_offset day 0 0 w v p q (same_rows_offset w v a) (λ i l. omega (arith, f i l))
    (λ r s h k g. cost_cong day w v r s a (λ i l. omega (arith, g i l)))
