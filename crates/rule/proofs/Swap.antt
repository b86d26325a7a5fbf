-- Two jobs that swap their starts, and the settled plan of the same cost that every plan leads to. Assumes nothing.
use Prim.Native.Nat.{ℕ, zero, suc, ◌+◌, ◌≤◌, ◌<◌}
use mathlib.Core.Path.{◌≡◌, refl, sym, ◌∙◌, ap}
use mathlib.Core.Bool.{Bool, true, false, cond, ◌&&◌}
use mathlib.Core.Logic.{◌⊎◌, inl, inr, ⊎_elim}
use native.Mathlib.Omega.{arith}
use lib.Dec.{eqb, leb, ltb}
use borrow.Author.Tests.{ltb-true, leb-true, eq-eqb, ne_eqb, lt-ltb, le-leb}
use Rattle.day.proofs.Cases.{on, on_eq, on_le, give, not_both, and_left, and_right, find}
use Rattle.rule.specs.Span.{Problem, in_span}
use Rattle.rule.specs.SpanPlan.{ByDeadline, In, SpanPlan, span_cost}
use Rattle.rule.proofs.Value.{in_span_true, in_span_intro}
use Rattle.rule.proofs.Occupied.{stands, cost_same}
use Rattle.rule.proofs.Cut.{Settled}

-- i and k change places, every other number stays
swap : ℕ → ℕ → ℕ → ℕ
swap i k j = cond (eqb j i) k (cond (eqb j k) i j)

swap_first : (i k : ℕ) → swap i k i ≡ k
unfolding swap
swap_first i k = rw (eq-eqb i i refl)

swap_second : (i k : ℕ) → swap i k k ≡ i
unfolding swap
swap_second i k = on_eq k i (λ w. rw (eq-eqb k i w) w) (λ n. rw (ne_eqb k i n, eq-eqb k k refl))

swap_other : (i k j : ℕ) → (j ≡ i → ⊥) → (j ≡ k → ⊥) → swap i k j ≡ j
unfolding swap
swap_other i k j n m = rw (ne_eqb j i n, ne_eqb j k m)

swap_swap : (i k j : ℕ) → swap i k (swap i k j) ≡ j
swap_swap i k j =
    on_eq j i (λ w. rw (w, swap_first, swap_second))
    (λ n. on_eq j k (λ w. rw (w, swap_second, swap_first)) (λ m. rw (swap_other i k j n m) (swap_other i k j n m)))

-- what holds of i, k and j holds of the swapped j
swap_keeps : (B : ℕ → Type 0) (i k j : ℕ) → B i → B k → B j → B (swap i k j)
unfolding swap
swap_keeps B i k j bi bk bj = on (eqb j i) (λ e. rw e bk) (λ e. rw e (on (eqb j k) (λ g. rw g bi) (λ g. rw g bj)))

-- the lower job i of the span could start where job k does, and starts later
record CouldSwap (P : Problem) (k s e : ℕ) (q : ℕ → ℕ) (i : ℕ) : Type 0 where
  below : i < k
  inside : In P s e i
  ready : P.release i ≤ q k
  after : q k < q i

could_swap : Problem → ℕ → ℕ → ℕ → (ℕ → ℕ) → ℕ → Bool
could_swap P k s e q i = in_span P s e i && (leb (P.release i) (q k) && ltb (q k) (q i))

could_swap_true : (P : Problem) (k s e : ℕ) (q : ℕ → ℕ) (i : ℕ) → i < k → could_swap P k s e q i ≡ true → CouldSwap P k s e q i
unfolding could_swap
could_swap_true P k s e q i l h =
    give (and_right (in_span P s e i) (leb (P.release i) (q k) && ltb (q k) (q i)) h)
    (λ late.
    record {
      below = l;
      inside = in_span_true P s e i (and_left (in_span P s e i) (leb (P.release i) (q k) && ltb (q k) (q i)) h);
      ready = leb-true (P.release i) (q k) (and_left (leb (P.release i) (q k)) (ltb (q k) (q i)) late);
      after = ltb-true (q k) (q i) (and_right (leb (P.release i) (q k)) (ltb (q k) (q i)) late);
    })

could_swap_intro : (P : Problem) (k s e : ℕ) (q : ℕ → ℕ) (i : ℕ) → In P s e i → P.release i ≤ q k → q k < q i
    → could_swap P k s e q i ≡ true
unfolding could_swap
could_swap_intro P k s e q i h r a = rw (in_span_intro P s e i h, le-leb (P.release i) (q k) r, lt-ltb (q k) (q i) a)

-- a plan in which no lower job could swap with job k is settled
settled_if : (P : Problem) (k s e : ℕ) (q : ℕ → ℕ) → SpanPlan P (suc k) s e q → In P s e k
    → ((i : ℕ) → i < k → could_swap P k s e q i ≡ false) → Settled P k s e q
settled_if P k s e q plan hk none i l h r =
    on_le (q k) (q i)
    (λ c.
    on_eq (q i) (q k)
    (λ w. absurd (omega (arith, plan.apart i k (omega arith) (omega arith) h hk w)))
    (λ w. absurd (not_both (could_swap_intro P k s e q i h r (omega arith)) (none i l))))
    (λ c. c)

-- the plan in which jobs i and k have swapped their starts
abbrev swapped : (ℕ → ℕ) → ℕ → ℕ → ℕ → ℕ
swapped q i k j = q (swap i k j)

module _ (P : Problem) (k s e : ℕ) (q : ℕ → ℕ) (i : ℕ) (plan : SpanPlan P (suc k) s e q) (hk : In P s e k) (c : CouldSwap P k s e q i) where
  swap_below : (j : ℕ) → j < suc k → swap i k j < suc k
  swap_below j l = swap_keeps (λ x. x < suc k) i k j (omega arith) (omega arith) l

  swap_inside : (j : ℕ) → In P s e j → In P s e (swap i k j)
  swap_inside j h = swap_keeps (In P s e) i k j c.inside hk h

  -- job k may start where job i does, as its deadline is no earlier
  swap_fits : P.deadline i ≤ P.deadline k → (j : ℕ) → j < suc k → In P s e j
      → (P.release j ≤ swapped q i k j) × (swapped q i k j < P.deadline j) × (swapped q i k j < e)
  swap_fits d j l h =
      give (plan.fits i (omega arith) c.inside)
      (λ fi.
      give (plan.fits k (omega arith) hk)
      (λ fk.
      on_eq j i (λ w. rw (w, swap_first) (omega arith))
      (λ n. on_eq j k (λ w. rw (w, swap_second) (omega arith)) (λ m. rw (swap_other i k j n m) (plan.fits j l h)))))

  swap_plan : P.deadline i ≤ P.deadline k → SpanPlan P (suc k) s e (swapped q i k)
  swap_plan d =
      record {
        allowed = λ j l h. plan.allowed (swap i k j) (swap_below j l) (swap_inside j h);
        fits = swap_fits d;
        apart = λ j m l u h g w.
            sym (swap_swap i k j)
            ∙ ap (swap i k)
            (plan.apart (swap i k j) (swap i k m) (swap_below j l) (swap_below m u) (swap_inside j h) (swap_inside m g) w)
            ∙ swap_swap i k m;
      }

  -- the same slots stay taken
  swap_cost : s ≤ e → span_cost P (suc k) s e (swapped q i k) ≡ span_cost P (suc k) s e q
  swap_cost l =
      cost_same P (suc k) (suc k) s e (swapped q i k) q l
      (λ t o. stands (swap i k o.job) (swap_below o.job o.below) (swap_inside o.job o.inside) o.at)
      (λ t o.
      stands (swap i k o.job) (swap_below o.job o.below) (swap_inside o.job o.inside)
      (ap q (swap_swap i k o.job) ∙ o.at))

-- a settled plan of the same cost: q itself, or one where job k starts later
pub record Settles (P : Problem) (k s e : ℕ) (q : ℕ → ℕ) : Type 0 where
  pub to : ℕ → ℕ
  pub plan : SpanPlan P (suc k) s e to
  pub settled : Settled P k s e to
  pub same_cost : span_cost P (suc k) s e to ≡ span_cost P (suc k) s e q
  pub later : (q k < to k) ⊎ (to ≡ q)

settles_later : (P : Problem) (k s e : ℕ) (q q' : ℕ → ℕ) → q k < q' k → span_cost P (suc k) s e q' ≡ span_cost P (suc k) s e q
    → Settles P k s e q' → Settles P k s e q
settles_later P k s e q q' l c w =
    record {
      to = w.to;
      plan = w.plan;
      settled = w.settled;
      same_cost = w.same_cost ∙ c;
      later = inl (⊎_elim (λ g. omega arith) (λ g. omega (arith, ap (λ (f : ℕ → ℕ). f k) g)) w.later);
    }

-- with each swap job k starts later, so at most e - q k swaps settle the plan
settle_within : (P : Problem) {n : ℕ} → ByDeadline P n → (m k s e : ℕ) (q : ℕ → ℕ) → k < n → SpanPlan P (suc k) s e q → In P s e k
    → e ≤ q k + m → Settles P k s e q
settle_within P by zero k s e q kn plan hk l = absurd (omega (arith, plan.fits k (omega arith) hk))
settle_within P by (suc m) k s e q kn plan hk l =
    ⊎_elim
    (λ w.
    give (could_swap_true P k s e q w.0 w.1 w.2)
    (λ c.
    give (ap q (swap_second w.0 k))
    (λ moved.
    settles_later P k s e q (swapped q w.0 k) (omega (arith, moved))
    (swap_cost P k s e q w.0 plan hk c (omega arith))
    (settle_within P by m k s e (swapped q w.0 k) kn
    (swap_plan P k s e q w.0 plan hk c (by w.0 k (omega arith) kn))
    hk
    (omega (arith, moved))))))
    (λ none.
    record {
      to = q;
      plan = plan;
      settled = settled_if P k s e q plan hk none;
      same_cost = refl;
      later = inr refl;
    })
    (find (could_swap P k s e q) k)

pub settle : (P : Problem) {n : ℕ} → ByDeadline P n → (k s e : ℕ) (q : ℕ → ℕ) → k < n → SpanPlan P (suc k) s e q → In P s e k
    → Settles P k s e q
settle P by k s e q kn plan hk = settle_within P by e k s e q kn plan hk (omega arith)
