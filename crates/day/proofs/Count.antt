-- Laws of counting. Assumes nothing.
use Prim.Native.Nat.{ℕ, zero, suc, ◌+◌, ◌≤◌, ◌<◌}
use mathlib.Core.Path.{◌≡◌, refl, sym, ◌∙◌, ap}
use mathlib.Core.Logic.{◌⊎◌, inl, inr, ⊎_elim}
use native.Mathlib.Omega.{arith}
use Rattle.day.specs.Count.{Count, counted_none, counted, passed_over}
use Rattle.day.proofs.Cases.{give, on_eq}

pub count_unique : {P : ℕ → Type 0} {m c d : ℕ} → Count P m c → Count P m d → c ≡ d
count_unique counted_none counted_none = refl
count_unique (counted p h) (counted q l) = ap suc (count_unique p q)
count_unique (counted p h) (passed_over q l) = absurd (l h)
count_unique (passed_over p h) (counted q l) = absurd (h l)
count_unique (passed_over p h) (passed_over q l) = count_unique p q

-- properties that agree count alike
pub count_same : {P Q : ℕ → Type 0} {m c : ℕ} → ((u : ℕ) → u < m → P u → Q u) → ((u : ℕ) → u < m → Q u → P u) → Count P m c → Count Q m c
count_same to from counted_none = counted_none
count_same to from (counted {m = m} p h) =
    counted (count_same (λ u l. to u (omega arith)) (λ u l. from u (omega arith)) p) (to m (omega arith) h)
count_same to from (passed_over {m = m} p h) =
    passed_over (count_same (λ u l. to u (omega arith)) (λ u l. from u (omega arith)) p) (λ q. h (from m (omega arith) q))

-- what is known of each number has a count
pub count_known : {P : ℕ → Type 0} (m : ℕ) → ((u : ℕ) → u < m → P u ⊎ (P u → ⊥)) → (c : ℕ) × Count P m c
count_known zero known = (0, counted_none)
count_known (suc m) known =
    give (count_known m (λ u l. known u (omega arith)))
    (λ below.
    ⊎_elim (λ h. (suc below.0, counted below.1 h)) (λ h. (below.0, passed_over below.1 h)) (known m (omega arith)))

-- the third holds where one of the first two does, and those never both do
pub record Parted (P Q R : Type 0) : Type 0 where
  pub first : P → R
  pub second : Q → R
  pub either : R → P ⊎ Q
  pub apart : P → Q → ⊥

-- the counts of the parts add up
pub count_parted : {P Q R : ℕ → Type 0} {m c d e : ℕ} → ((u : ℕ) → u < m → Parted (P u) (Q u) (R u)) → Count P m c → Count Q m d → Count R m e
    → c + d ≡ e
count_parted parted counted_none counted_none counted_none = refl
count_parted parted (counted {m = m} p h) (counted q k) r = absurd ((parted m (omega arith)).apart h k)
count_parted parted (counted {m = m} p h) (passed_over q k) (passed_over r n) = absurd (n ((parted m (omega arith)).first h))
count_parted parted (passed_over {m = m} p h) (counted q k) (passed_over r n) = absurd (n ((parted m (omega arith)).second k))
count_parted parted (passed_over {m = m} p h) (passed_over q k) (counted r b) =
    ⊎_elim (λ x. absurd (h x)) (λ x. absurd (k x)) ((parted m (omega arith)).either b)
count_parted parted (counted p h) (passed_over q k) (counted r b) = omega (arith, count_parted (λ u l. parted u (omega arith)) p q r)
count_parted parted (passed_over p h) (counted q k) (counted r b) = omega (arith, count_parted (λ u l. parted u (omega arith)) p q r)
count_parted parted (passed_over p h) (passed_over q k) (passed_over r n) = count_parted (λ u l. parted u (omega arith)) p q r

-- of g further numbers all count, or none does
pub count_all : {P : ℕ → Type 0} {m c : ℕ} (g n d : ℕ) → n ≡ m + g → d ≡ c + g → Count P m c → ((u : ℕ) → m ≤ u → u < n → P u)
    → Count P n d
count_all {P} {m} {c} zero n d e f p all =
    let here : n ≡ m = omega arith in
    let same : d ≡ c = omega arith in
    rw (here, same) p
count_all {P} {m} {c} (suc g) n d e f p all =
    let here : n ≡ suc (m + g) = omega arith in
    let more : d ≡ suc (c + g) = omega arith in
    rw (here, more)
    (counted (count_all g (m + g) (c + g) refl refl p (λ u h l. all u h (omega arith))) (all (m + g) (omega arith) (omega arith)))

pub count_none : {P : ℕ → Type 0} {m c : ℕ} (g n : ℕ) → n ≡ m + g → Count P m c → ((u : ℕ) → m ≤ u → u < n → P u → ⊥) → Count P n c
count_none {P} {m} {c} zero n e p never =
    let here : n ≡ m = omega arith in
    rw here p
count_none {P} {m} {c} (suc g) n e p never =
    let here : n ≡ suc (m + g) = omega arith in
    rw here
    (passed_over (count_none g (m + g) refl p (λ u h l. never u h (omega arith))) (never (m + g) (omega arith) (omega arith)))

pub count_at_most_all : {P : ℕ → Type 0} {m c : ℕ} → Count P m c → c ≤ m
count_at_most_all counted_none = omega arith
count_at_most_all (counted p h) = omega (arith, count_at_most_all p)
count_at_most_all (passed_over p h) = omega (arith, count_at_most_all p)

-- where each number with one property has the other too, the other counts no less
pub count_at_most : {P Q : ℕ → Type 0} {m c d : ℕ} → ((u : ℕ) → u < m → P u → Q u) → Count P m c → Count Q m d → c ≤ d
count_at_most also counted_none counted_none = omega arith
count_at_most also (counted p h) (counted q k) = omega (arith, count_at_most (λ u l. also u (omega arith)) p q)
count_at_most also (counted {m = m} p h) (passed_over q k) = absurd (k (also m (omega arith) h))
count_at_most also (passed_over p h) (counted q k) = omega (arith, count_at_most (λ u l. also u (omega arith)) p q)
count_at_most also (passed_over p h) (passed_over q k) = count_at_most (λ u l. also u (omega arith)) p q

-- and more, where a number has only the other
pub count_more : {P Q : ℕ → Type 0} {m c d : ℕ} → ((u : ℕ) → u < m → P u → Q u) → (j : ℕ) → j < m → (P j → ⊥) → Q j → Count P m c → Count Q m d
    → c < d
count_more also j l only here counted_none counted_none = absurd (omega arith)
count_more also j l only here (counted {m = m} p h) (counted q k) =
    on_eq j m (λ e. absurd (only (rw e h)))
    (λ e. omega (arith, count_more (λ u g. also u (omega arith)) j (omega arith) only here p q))
count_more also j l only here (counted {m = m} p h) (passed_over q k) = absurd (k (also m (omega arith) h))
count_more also j l only here (passed_over p h) (counted q k) = omega (arith, count_at_most (λ u g. also u (omega arith)) p q)
count_more also j l only here (passed_over {m = m} p h) (passed_over q k) =
    on_eq j m (λ e. absurd (k (rw e at here)))
    (λ e. count_more (λ u g. also u (omega arith)) j (omega arith) only here p q)

pub count_never : {P : ℕ → Type 0} {m c : ℕ} → ((u : ℕ) → u < m → P u → ⊥) → Count P m c → c ≡ 0
count_never never counted_none = refl
count_never never (counted {m = m} p h) = absurd (never m (omega arith) h)
count_never never (passed_over p h) = count_never (λ u l. never u (omega arith)) p

pub count_some : {P : ℕ → Type 0} {m c : ℕ} (j : ℕ) → j < m → P j → Count P m c → 0 < c
count_some j l here counted_none = absurd (omega arith)
count_some j l here (counted p h) = omega arith
count_some j l here (passed_over {m = m} p h) =
    on_eq j m (λ e. absurd (h (rw e at here))) (λ e. count_some j (omega arith) here p)

-- where no two numbers have the property, at most one does
pub count_one : {P : ℕ → Type 0} {m c : ℕ} → ((i j : ℕ) → i < m → j < m → P i → P j → i ≡ j) → Count P m c → c ≤ 1
count_one one counted_none = omega arith
count_one one (counted {m = m} p h) =
    omega (arith, count_never (λ u l k. omega (arith, one u m (omega arith) (omega arith) k h)) p)
count_one one (passed_over p h) = count_one (λ i j l k. one i j (omega arith) (omega arith)) p

-- and where two have it, more than one does
pub count_two : {P : ℕ → Type 0} {m c : ℕ} (i j : ℕ) → i < m → j < m → (i ≡ j → ⊥) → P i → P j → Count P m c → 1 < c
count_two i j l k other here there counted_none = absurd (omega arith)
count_two i j l k other here there (counted {m = m} p h) =
    on_eq i m (λ e. omega (arith, count_some j (omega arith) there p)) (λ e. omega (arith, count_some i (omega arith) here p))
count_two i j l k other here there (passed_over {m = m} p h) =
    on_eq i m (λ e. absurd (h (rw e at here)))
    (λ e. on_eq j m (λ f. absurd (h (rw f at there))) (λ f. count_two i j (omega arith) (omega arith) other here there p))

-- where each number with one property, save one, has the other too, the other counts at most one less
pub count_but_one : {P Q : ℕ → Type 0} {m c d : ℕ} (j : ℕ) → ((u : ℕ) → u < m → (u ≡ j → ⊥) → P u → Q u) → Count P m c → Count Q m d → c ≤ suc d
count_but_one j also counted_none counted_none = omega arith
count_but_one j also (counted p h) (counted q k) = omega (arith, count_but_one j (λ u l. also u (omega arith)) p q)
count_but_one j also (counted {m = m} p h) (passed_over q k) =
    on_eq m j (λ e. omega (arith, count_at_most (λ u l. also u (omega arith) (omega arith)) p q))
    (λ e. absurd (k (also m (omega arith) e h)))
count_but_one j also (passed_over p h) (counted q k) = omega (arith, count_but_one j (λ u l. also u (omega arith)) p q)
count_but_one j also (passed_over p h) (passed_over q k) = count_but_one j (λ u l. also u (omega arith)) p q

-- of the numbers that are counted, those with a further property and those without it
pub record Divided (P Q : ℕ → Type 0) (m c : ℕ) : Type 0 where
  pub with : ℕ
  pub without : ℕ
  pub counted_with : Count (λ u. P u × Q u) m with
  pub counted_without : Count (λ u. P u × (Q u → ⊥)) m without
  pub sum : with + without ≡ c

pub count_divided : {P Q : ℕ → Type 0} {m c : ℕ} → ((u : ℕ) → Q u ⊎ (Q u → ⊥)) → Count P m c → Divided P Q m c
count_divided known counted_none =
    record { with = 0; without = 0; counted_with = counted_none; counted_without = counted_none; sum = refl }
count_divided known (counted {m = m} p h) =
    give (count_divided known p)
    (λ d.
    ⊎_elim
    (λ yes.
    record {
      with = suc d.with;
      without = d.without;
      counted_with = counted d.counted_with (h, yes);
      counted_without = passed_over d.counted_without (λ z. z.1 yes);
      sum = omega (arith, d.sum);
    })
    (λ no.
    record {
      with = d.with;
      without = suc d.without;
      counted_with = passed_over d.counted_with (λ z. no z.1);
      counted_without = counted d.counted_without (h, no);
      sum = omega (arith, d.sum);
    })
    (known m))
count_divided known (passed_over p h) =
    give (count_divided known p)
    (λ d.
    record {
      with = d.with;
      without = d.without;
      counted_with = passed_over d.counted_with (λ z. h z.0);
      counted_without = passed_over d.counted_without (λ z. h z.0);
      sum = d.sum;
    })

-- where each number with the property has a place of its own among m, from `begin` on, at most m numbers have it
pub pigeonhole : {P : ℕ → Type 0} {n c : ℕ} (place : ℕ → ℕ) (begin m : ℕ) → ((i : ℕ) → i < n → P i → (begin ≤ place i) × (place i < begin + m))
    → ((i j : ℕ) → i < n → j < n → P i → P j → place i ≡ place j → i ≡ j)
    → Count P n c
    → c ≤ m
pigeonhole place begin zero within apart p = omega (arith, count_never (λ i l h. omega (arith, within i l h)) p)
pigeonhole {P = P} place begin (suc m) within apart p =
    give (count_divided {Q = λ i. place i ≡ begin + m} (λ i. on_eq (place i) (begin + m) inl inr) p)
    (λ d.
    omega (
      arith,
      d.sum,
      count_one (λ i j l k h g. apart i j l k h.0 g.0 (h.1 ∙ sym g.1)) d.counted_with,
      pigeonhole {P = λ x. P x × (place x ≡ begin + m → ⊥)} place begin m (λ i l h. ((within i l h.0).0, omega (arith, (within i l h.0).1, h.1)))
          (λ i j l k h g. apart i j l k h.0 g.0) d.counted_without,
    ))
