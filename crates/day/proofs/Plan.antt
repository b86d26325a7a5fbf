-- Laws of plans: which slots are taken; a plan that moves as its windows do stays proper, and only the rows matter. Assumes nothing.
use Prim.Native.Nat.{ℕ, zero, suc, ◌+◌, ◌-◌, ◌≤◌, ◌<◌}
use mathlib.Core.Path.{◌≡◌, refl, sym, ◌∙◌}
use mathlib.Core.Bool.{true, false}
use mathlib.Core.Logic.{⊎_elim}
use native.Mathlib.Omega.{arith}
use lib.Dec.{eqb}
use borrow.Author.Tests.{eqb-true, eq-eqb, ne_eqb}
use Rattle.day.specs.Windows.{Windows, SameRows}
use Rattle.day.specs.Plan.{Plan, Proper, NoPlan, taken}
use Rattle.day.proofs.Cases.{give, on, on_eq, not_both, bool_ext, or_cases, or_left, or_right}

-- the row that takes slot t, one of the first n
pub record Taker (n : ℕ) (p : Plan) (t : ℕ) : Type 0 where
  pub row : ℕ
  pub below : row < n
  pub at : p row ≡ t

pub taken_true : (n : ℕ) (p : Plan) (t : ℕ) → taken n p t ≡ true → Taker n p t
unfolding taken
taken_true zero p t h = absurd (not_both h refl)
taken_true (suc n) p t h =
    ⊎_elim (λ e. record { row = n; below = omega arith; at = eqb-true (p n) t e })
    (λ e. give (taken_true n p t e) (λ w. record { row = w.row; below = omega arith; at = w.at }))
    (or_cases (eqb (p n) t) (taken n p t) h)

pub taken_intro : (n : ℕ) (p : Plan) (t i : ℕ) → i < n → p i ≡ t → taken n p t ≡ true
unfolding taken
taken_intro zero p t i l e = absurd (omega arith)
taken_intro (suc n) p t i l e =
    on_eq i n (λ q. or_left (eqb (p n) t) (taken n p t) (eq-eqb (p n) t (rw q at e)))
    (λ q. or_right (eqb (p n) t) (taken n p t) (taken_intro n p t i (omega arith) e))

pub taken_false : (n : ℕ) (p : Plan) (t : ℕ) → (Taker n p t → ⊥) → taken n p t ≡ false
taken_false n p t none = on (taken n p t) (λ e. absurd (none (taken_true n p t e))) (λ e. e)

-- a slot that one plan takes exactly if the other does
pub taken_same : (n m : ℕ) (p q : Plan) (t u : ℕ) → (Taker n p t → Taker m q u) → (Taker m q u → Taker n p t)
    → taken n p t ≡ taken m q u
taken_same n m p q t u f g =
    bool_ext (taken n p t) (taken m q u)
    (λ h. give (f (taken_true n p t h)) (λ w. taken_intro m q u w.row w.below w.at))
    (λ h. give (g (taken_true m q u h)) (λ w. taken_intro n p t w.row w.below w.at))

-- only the first n starts matter
pub taken_agree : (n : ℕ) (p q : Plan) → ((i : ℕ) → i < n → p i ≡ q i) → (t : ℕ) → taken n p t ≡ taken n q t
taken_agree n p q f t =
    taken_same n n p q t t
    (λ w. record { row = w.row; below = w.below; at = sym (f w.row w.below) ∙ w.at })
    (λ w. record { row = w.row; below = w.below; at = f w.row w.below ∙ w.at })

-- the last row takes no slot but its start
pub taken_other : (n : ℕ) (p : Plan) (t : ℕ) → (p n ≡ t → ⊥) → taken (suc n) p t ≡ taken n p t
unfolding taken
taken_other n p t other = rw (ne_eqb (p n) t other)

-- where x of one list stands for y of another if x + a = y + b: every window of v is one of w, moved
pub record Offset (a b : ℕ) (w v : Windows) : Type 0 where
  pub count : v.count ≡ w.count
  pub release : (i : ℕ) → i < w.count → w.release i + a ≡ v.release i + b
  pub deadline : (i : ℕ) → i < w.count → w.deadline i + a ≡ v.deadline i + b

-- and each of n starts of q is one of p, moved as much
abbrev pub OffsetPlan : ℕ → ℕ → ℕ → Plan → Plan → Type 0
OffsetPlan a b n p q = (i : ℕ) → i < n → p i + a ≡ q i + b

pub offset_turned : (a b : ℕ) (w v : Windows) → Offset a b w v → Offset b a v w
offset_turned a b w v o =
    record {
      count = sym o.count;
      release = λ i l. sym (o.release i (omega arith));
      deadline = λ i l. sym (o.deadline i (omega arith));
    }

pub offset_plan_turned : (a b : ℕ) (w v : Windows) (p q : Plan) → Offset a b w v → OffsetPlan a b w.count p q
    → OffsetPlan b a v.count q p
offset_plan_turned a b w v p q o f i l = sym (f i (omega arith))

pub proper_offset : (a b : ℕ) (w v : Windows) (p q : Plan) → Offset a b w v → OffsetPlan a b w.count p q
    → Proper w p → Proper v q
proper_offset a b w v p q o f h =
    record {
      inside = λ i l.
          let k : i < w.count = omega arith in
          give (h.inside i k)
          (λ m. (omega (arith, f i k, o.release i k, m.0), omega (arith, f i k, o.deadline i k, m.1)));
      apart = λ i j l m e.
          let k : i < w.count = omega arith in
          let n : j < w.count = omega arith in
          h.apart i j k n (omega (arith, f i k, f j n));
    }

-- a proper plan, moved as the windows are
pub offset_proper : (a b : ℕ) (w v : Windows) (p : Plan) → Offset a b w v → Proper w p
    → OffsetPlan a b w.count p (λ i. p i + a - b)
offset_proper a b w v p o h i l = give (h.inside i l) (λ m. omega (arith, o.release i l, m.0))

pub no_plan_offset : (a b : ℕ) (w v : Windows) → Offset a b w v → NoPlan v → NoPlan w
no_plan_offset a b w v o none p h =
    none (λ i. p i + a - b) (proper_offset a b w v p (λ i. p i + a - b) o (offset_proper a b w v p o h) h)

pub same_rows_refl : (w : Windows) → SameRows w w
same_rows_refl w = record { count = refl; release = λ i l. refl; deadline = λ i l. refl }

pub same_rows_turned : (w v : Windows) → SameRows w v → SameRows v w
same_rows_turned w v a =
    record {
      count = sym a.count;
      release = λ i l. sym (a.release i (omega arith));
      deadline = λ i l. sym (a.deadline i (omega arith));
    }

pub same_rows_offset : (w v : Windows) → SameRows w v → Offset 0 0 w v
same_rows_offset w v a =
    record {
      count = a.count;
      release = λ i l. omega (arith, a.release i l);
      deadline = λ i l. omega (arith, a.deadline i l);
    }

-- only the rows of the windows and the starts of those rows matter
pub proper_cong : (w v : Windows) (p q : Plan) → SameRows w v → ((i : ℕ) → i < w.count → p i ≡ q i) → Proper w p → Proper v q
proper_cong w v p q a f = proper_offset 0 0 w v p q (same_rows_offset w v a) (λ i l. omega (arith, f i l))

pub no_plan_cong : (w v : Windows) → SameRows w v → NoPlan w → NoPlan v
no_plan_cong w v a = no_plan_offset 0 0 v w (same_rows_offset v w (same_rows_turned w v a))

-- every window of w lies inside that of v
pub record Narrower (w v : Windows) : Type 0 where
  pub count : v.count ≡ w.count
  pub release : (i : ℕ) → i < w.count → v.release i ≤ w.release i
  pub deadline : (i : ℕ) → i < w.count → w.deadline i ≤ v.deadline i

pub narrower_same : (w : Windows) → Narrower w w
narrower_same w = record { count = refl; release = λ i l. omega arith; deadline = λ i l. omega arith }

pub narrower_twice : {w v u : Windows} → Narrower w v → Narrower v u → Narrower w u
narrower_twice {w} {v} n m =
    record {
      count = m.count ∙ n.count;
      release = λ i l. omega (arith, n.release i l, m.release i (omega (arith, n.count)));
      deadline = λ i l. omega (arith, n.deadline i l, m.deadline i (omega (arith, n.count)));
    }

pub proper_wider : {w v : Windows} {p : Plan} → Narrower w v → Proper w p → Proper v p
proper_wider {w} n P =
    record {
      inside = λ i l.
          give {A = i < w.count} (omega (arith, n.count))
          (λ h. give (P.inside i h) (λ m. (omega (arith, n.release i h, m.0), omega (arith, n.deadline i h, m.1))));
      apart = λ i j l m. P.apart i j (omega (arith, n.count)) (omega (arith, n.count));
    }
