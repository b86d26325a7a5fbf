-- The mirrored day costs as much: slot t of the one is slot T - 1 - t of the other. Assumes nothing.
use Prim.Native.Nat.{ℕ, zero, suc, ◌+◌, ◌-◌, ◌≤◌, ◌<◌}
use mathlib.Core.Path.{◌≡◌, refl, sym, ◌∙◌, ap}
use mathlib.Core.Bool.{Bool, true, false}
use native.Mathlib.Omega.{arith}
use Rattle.day.specs.declared.Day.{Day}
use Rattle.day.specs.Windows.{Windows}
use Rattle.day.specs.Plan.{Plan, Proper, NoPlan, taken}
use Rattle.day.specs.Gap.{price, cost}
use Rattle.day.specs.Best.{Best}
use Rattle.day.specs.Far.{far_price}
use Rattle.day.specs.Mirrored.{mirrored}
use Rattle.day.proofs.Cases.{give, on_eq}
use Rattle.day.specs.Span.{span}
use Rattle.day.proofs.Span.{span_empty, span_split, span_unique}
use Rattle.day.proofs.Plan.{taken_same, taken_false}
use Rattle.day.proofs.Gap.{cost_none}
use Rattle.day.proofs.Far.{from_one, far_price_start, far_price_end, far_price_inside, from_one_zero, from_one_suc, cost_far}

-- points s and x, and e and y, lie opposite
far_price_mirrored : (day : Day) (s e x y : ℕ) → s + x ≡ day.slots + 2 → e + y ≡ day.slots + 2
    → far_price day y x ≡ far_price day s e
far_price_mirrored day s e x y p q =
    on_eq s 0 (λ z. far_price_end day y x (omega arith) ∙ sym (ap (λ (v : ℕ). far_price day v e) z ∙ far_price_start day e))
    (λ near.
    on_eq e (day.slots + 2)
    (λ z.
    ap (λ (v : ℕ). far_price day v x) {x = y} {y = 0} (omega arith) ∙ far_price_start day x ∙ sym (far_price_end day s e z))
    (λ short.
    far_price_inside day y x (λ z. short (omega arith)) (λ z. near (omega arith))
    ∙ ap (price day.power) {x = x - y} {y = e - s} (omega arith)
    ∙ sym (far_price_inside day s e near short)))

-- where every slot is full exactly if the opposite one is, the two days cost as much between their far points
span_mirrored : (day : Day) (full other : ℕ → Bool) → ((t u : ℕ) → t + u ≡ day.slots + 1 → full t ≡ other u)
    → span (far_price day) other 0 (day.slots + 2) ≡ span (far_price day) full 0 (day.slots + 2)
span_mirrored day full other opposite =
    ap (λ (s : ℕ). span (far_price day) other s top) {x = 0} {y = top - top} (omega arith)
    ∙ ap (span (far_price day) other (top - top)) {x = top} {y = top - 0} (omega arith)
    ∙ span_unique (far_price day) full (λ s e. span (far_price day) other (top - e) (top - s)) top empty split top 0 top
    (omega arith) (omega arith) (omega arith)
  where
    top : ℕ
    top = day.slots + 2

    empty : (s e : ℕ) → s ≤ e → e ≤ day.slots + 2 → ((t : ℕ) → s ≤ t → t < e → full t ≡ false)
        → span (far_price day) other (top - e) (top - s) ≡ far_price day s e
    empty s e l h none =
        span_empty (far_price day) other (top - e) (top - s) (omega arith)
        (λ u a b. sym (opposite (day.slots + 1 - u) u (omega arith)) ∙ none (day.slots + 1 - u) (omega arith) (omega arith))
        ∙ far_price_mirrored day s e (top - s) (top - e) (omega arith) (omega arith)

    split : (s t e : ℕ) → s ≤ t → t < e → e ≤ top → full t ≡ true
        → span (far_price day) other (top - e) (top - s)
        ≡ span (far_price day) other (top - t) (top - s) + span (far_price day) other (top - e) (top - suc t)
    split s t e l h u w =
        let next : suc (top - suc t) ≡ top - t = omega arith in
        omega (
          arith,
          rw next at (span_split (far_price day) other (top - e) (top - suc t) (top - s) (omega arith) (omega arith)
              (sym (opposite t (top - suc t) (omega arith)) ∙ w)),
        )

-- of n rows, p and q start in opposite slots
abbrev Opposite : ℕ → ℕ → Plan → Plan → Type 0
Opposite slots n p q = (i : ℕ) → i < n → p i + q i + 1 ≡ slots

-- starts in opposite slots, counted from 1, with nothing at the ends
taken_mirrored : (slots n : ℕ) (p q : Plan) → Opposite slots n p q → (t u : ℕ) → t + u ≡ slots + 1
    → from_one (taken n p) t ≡ from_one (taken n q) u
taken_mirrored slots n p q f zero zero e = absurd (omega arith)
taken_mirrored slots n p q f zero (suc u) e =
    from_one_zero (taken n p)
    ∙ sym (from_one_suc (taken n q) u ∙ taken_false n q u (λ w. omega (arith, f w.row w.below)))
taken_mirrored slots n p q f (suc t) zero e =
    from_one_suc (taken n p) t
    ∙ taken_false n p t (λ w. omega (arith, f w.row w.below))
    ∙ sym (from_one_zero (taken n q))
taken_mirrored slots n p q f (suc t) (suc u) e =
    from_one_suc (taken n p) t
    ∙ taken_same n n p q t u
    (λ w. record { row = w.row; below = w.below; at = omega (arith, f w.row w.below) })
    (λ w. record { row = w.row; below = w.below; at = omega (arith, f w.row w.below) })
    ∙ sym (from_one_suc (taken n q) u)

pub cost_mirrored : (day : Day) (n : ℕ) (p q : Plan) → Opposite day.slots n p q → cost day n p ≡ cost day n q
cost_mirrored day zero p q f = cost_none day p ∙ sym (cost_none day q)
cost_mirrored day (suc n) p q f =
    omega (
      arith,
      span_mirrored day (from_one (taken (suc n) p)) (from_one (taken (suc n) q)) (taken_mirrored day.slots (suc n) p q f),
      cost_far day (suc n) p (omega arith) (λ i l. omega (arith, f i l)),
      cost_far day (suc n) q (omega arith) (λ i l. omega (arith, f i l)),
    )

-- each window of the one list lies opposite the other's; unlike `mirrored` this is the same both ways
record Facing (slots : ℕ) (w v : Windows) : Type 0 where
  count : v.count ≡ w.count
  release : (i : ℕ) → i < w.count → w.deadline i + v.release i ≡ slots
  deadline : (i : ℕ) → i < w.count → w.release i + v.deadline i ≡ slots

facing_turned : (slots : ℕ) (w v : Windows) → Facing slots w v → Facing slots v w
facing_turned slots w v o =
    record {
      count = sym o.count;
      release = λ i l. omega (arith, o.deadline i (omega arith));
      deadline = λ i l. omega (arith, o.release i (omega arith));
    }

proper_facing : (slots : ℕ) (w v : Windows) (p : Plan) → Facing slots w v → Proper w p → Proper v (λ i. slots - 1 - p i)
proper_facing slots w v p o h =
    record {
      inside = λ i l.
          let k : i < w.count = omega arith in
          give (h.inside i k) (λ m. (omega (arith, o.release i k, m.0, m.1), omega (arith, o.deadline i k, o.release i k, m.0, m.1)));
      apart = λ i j l k e. h.apart i j (omega arith) (omega arith) (omega (arith, before i (omega arith), before j (omega arith)));
    }
  where
    before : (i : ℕ) → i < w.count → p i < slots
    before i l = give (h.inside i l) (λ m. omega (arith, o.release i l, m.1))

-- rows as the checks leave them
module _ (day : Day) (w : Windows)
    (window : (i : ℕ) → i < w.count → w.release i < w.deadline i)
    (in_day : (i : ℕ) → i < w.count → w.deadline i ≤ day.slots)
  where
    mirrored_facing : Facing day.slots w (mirrored day.slots w)
    mirrored_facing =
        record {
          count = refl;
          release = λ i l. omega (arith, in_day i l);
          deadline = λ i l. omega (arith, window i l, in_day i l);
        }

    -- a proper plan of the one, turned round, is a proper plan of the other
    pub mirrored_proper : (p : Plan) → Proper w p → Proper (mirrored day.slots w) (λ i. day.slots - 1 - p i)
    mirrored_proper p = proper_facing day.slots w (mirrored day.slots w) p mirrored_facing

    pub proper_mirrored : (q : Plan) → Proper (mirrored day.slots w) q → Proper w (λ i. day.slots - 1 - q i)
    proper_mirrored q =
        proper_facing day.slots (mirrored day.slots w) w q
        (facing_turned day.slots w (mirrored day.slots w) mirrored_facing)

    pub mirrored_no_plan : NoPlan w → NoPlan (mirrored day.slots w)
    mirrored_no_plan none q h = none (λ i. day.slots - 1 - q i) (proper_mirrored q h)

    pub no_plan_mirrored : NoPlan (mirrored day.slots w) → NoPlan w
    no_plan_mirrored none p h = none (λ i. day.slots - 1 - p i) (mirrored_proper p h)

    -- the best cost is the same
    pub mirrored_best_cost : (p q : Plan) → Best day w p → Best day (mirrored day.slots w) q
        → cost day w.count q ≡ cost day w.count p
    mirrored_best_cost p q a b =
        omega (
          arith,
          a.cheapest (λ i. day.slots - 1 - q i) (proper_mirrored q b.proper),
          b.cheapest (λ i. day.slots - 1 - p i) (mirrored_proper p a.proper),
          cost_mirrored day w.count p (λ i. day.slots - 1 - p i)
              (λ i l. give (a.proper.inside i l) (λ m. omega (arith, m.1, in_day i l))),
          cost_mirrored day w.count q (λ i. day.slots - 1 - q i)
              (λ i l. give (b.proper.inside i l) (λ m. omega (arith, m.1))),
        )
