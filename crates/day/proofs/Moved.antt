-- A moved list has the moved best plan at the same cost, or no plan either. Assumes nothing.
use Prim.Native.Nat.{ℕ, suc, ◌+◌, ◌-◌, ◌≤◌, ◌<◌}
use mathlib.Core.Path.{◌≡◌, sym, ◌∙◌, ap}
use native.Mathlib.Omega.{arith}
use lib.Dec.{ltb}
use lib.IntN.{ℤ, pos, negsuc}
use borrow.Author.Tests.{ltb-false, le-ltb}
use Rattle.day.specs.declared.Day.{Day}
use Rattle.day.specs.Windows.{Windows}
use Rattle.day.specs.Plan.{Plan, Proper, NoPlan}
use Rattle.day.specs.Gap.{cost}
use Rattle.day.specs.Best.{Best}
use Rattle.day.specs.Moved.{Shifts, Moved}
use Rattle.day.proofs.Cases.{give, on}
use Rattle.day.proofs.Plan.{Offset, OffsetPlan, offset_turned, offset_proper, no_plan_offset}
use Rattle.day.proofs.Gap.{longer, cost_longer, cost_agree}
use Rattle.day.proofs.Best.{best_offset, best_unique}
use Rattle.day.proofs.Mirrored.{cost_mirrored}

-- a day that begins a slots earlier: its end mirrored, made longer and mirrored back
cost_later : (day : Day) (n : ℕ) (p : Plan) → ((i : ℕ) → i < n → p i < day.slots) → (a : ℕ)
    → cost (longer day a) n (λ i. p i + a) ≡ cost day n p
cost_later day n p inside a =
    sym
    (cost_mirrored day n p (λ i. day.slots - 1 - p i) (λ i l. omega (arith, inside i l))
    ∙ sym (cost_longer day n (λ i. day.slots - 1 - p i) (λ i l. omega (arith, inside i l)) a)
    ∙ cost_mirrored (longer day a) n (λ i. day.slots - 1 - p i) (λ i. p i + a) (λ i l. omega (arith, inside i l)))

-- and ends b slots later
cost_within : (day : Day) (n : ℕ) (p : Plan) → ((i : ℕ) → i < n → p i < day.slots) → (a b : ℕ)
    → cost (longer (longer day a) b) n (λ i. p i + a) ≡ cost day n p
cost_within day n p inside a b =
    cost_longer (longer day a) n (λ i. p i + a) (λ i l. omega (arith, inside i l)) b ∙ cost_later day n p inside a

-- the cost is kept where all starts of a plan are moved inside the day
pub cost_offset : (day : Day) (a b n : ℕ) (p q : Plan) → OffsetPlan a b n p q
    → ((i : ℕ) → i < n → p i < day.slots)
    → ((i : ℕ) → i < n → q i < day.slots)
    → cost day n p ≡ cost day n q
cost_offset day a b n p q f inside within =
    let length : day.slots + a + b ≡ day.slots + b + a = omega arith in
    sym (cost_within day n p inside a b)
    ∙ cost_agree (longer (longer day a) b) n (λ i. p i + a) (λ i. q i + b) f
    ∙ ap (λ (slots : ℕ). cost (record { slots = slots; power = day.power }) n (λ i. q i + b)) length
    ∙ cost_within day n q within b a

-- how much later and how much earlier a signed number of slots is; one of the two is 0

later : ℤ → ℕ
later (pos k) = k
later (negsuc k) = 0

earlier : ℤ → ℕ
earlier (pos k) = 0
earlier (negsuc k) = suc k

shifts_offset : (by : ℤ) (x y : ℕ) → Shifts by x y → x + later by ≡ y + earlier by
unfolding later earlier
shifts_offset (pos k) x y e = let q : x + k ≡ y = cc in omega arith
shifts_offset (negsuc k) x y e =
    on (ltb x (suc k)) (λ t. let z : ◌≡◌ {A = ℕ} 0 1 = (cc (rw t at e)) in absurd (omega arith))
    (λ t. let q : x - suc k ≡ y = (cc (rw t at e)) in omega (arith, ltb-false x (suc k) t))

offset_shifts : (by : ℤ) (x y : ℕ) → x + later by ≡ y + earlier by → Shifts by x y
unfolding later earlier
offset_shifts (pos k) x y e = ap pos (omega arith)
offset_shifts (negsuc k) x y e = rw (le-ltb x (suc k) (omega arith)) (ap pos (omega arith))

moved_offset : (by : ℤ) (w v : Windows) → Moved by w v → Offset (later by) (earlier by) w v
moved_offset by w v m =
    record {
      count = m.count;
      release = λ i l. shifts_offset by (w.release i) (v.release i) (m.release i l);
      deadline = λ i l. shifts_offset by (w.deadline i) (v.deadline i) (m.deadline i l);
    }

pub moved_no_plan : (by : ℤ) (w v : Windows) → Moved by w v → NoPlan w → NoPlan v
moved_no_plan by w v m =
    no_plan_offset (earlier by) (later by) v w (offset_turned (later by) (earlier by) w v (moved_offset by w v m))

pub no_plan_moved : (by : ℤ) (w v : Windows) → Moved by w v → NoPlan v → NoPlan w
no_plan_moved by w v m = no_plan_offset (later by) (earlier by) w v (moved_offset by w v m)

-- where both lists lie inside the day
module _ (day : Day) (by : ℤ) (w v : Windows) (moved : Moved by w v)
    (old : (i : ℕ) → i < w.count → w.deadline i ≤ day.slots)
    (new : (i : ℕ) → i < w.count → v.deadline i ≤ day.slots)
  where
    cost_moved : (p q : Plan) → Proper w p → Proper v q → OffsetPlan (later by) (earlier by) w.count p q
        → cost day w.count p ≡ cost day v.count q
    cost_moved p q h k f =
        rw moved.count
        (cost_offset day (later by) (earlier by) w.count p q f
        (λ i l. give (h.inside i l) (λ m. omega (arith, m.1, old i l)))
        (λ i l. give (k.inside i (omega (arith, moved.count))) (λ m. omega (arith, m.1, new i l))))

    -- the best plan with each start moved is the best plan
    pub moved_best : (p q : Plan) → ((i : ℕ) → i < w.count → Shifts by (p i) (q i)) → Best day w p → Best day v q
    moved_best p q f =
        best_offset day (later by) (earlier by) w v p q (moved_offset by w v moved)
        (λ i l. shifts_offset by (p i) (q i) (f i l)) cost_moved

    -- each start of the best plan moves by as much
    pub moved_starts : (p q : Plan) → Best day w p → Best day v q → (i : ℕ) → i < w.count → Shifts by (p i) (q i)
    moved_starts p q a b i l =
        offset_shifts by (p i) (q i)
        (ends i l ∙ ap (λ (y : ℕ). y + earlier by) (best_unique day v there q best b i (omega (arith, moved.count))))
      where
        there : Plan
        there j = p j + later by - earlier by

        ends : OffsetPlan (later by) (earlier by) w.count p there
        ends = offset_proper (later by) (earlier by) w v p (moved_offset by w v moved) a.proper

        best : Best day v there
        best = moved_best p there (λ i l. offset_shifts by (p i) (there i) (ends i l)) a

    -- and costs as much
    pub moved_best_cost : (p q : Plan) → Best day w p → Best day v q → cost day w.count p ≡ cost day v.count q
    moved_best_cost p q a b =
        cost_moved p q a.proper b.proper (λ i l. shifts_offset by (p i) (q i) (moved_starts p q a b i l))
