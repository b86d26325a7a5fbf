-- Laws of gaps and what they cost. Assumes nothing.
use Prim.Native.Nat.{ℕ, zero, suc, ◌+◌, ◌-◌, ◌≤◌, ◌<◌}
use mathlib.Core.Path.{◌≡◌, refl, sym, ◌∙◌, ap}
use mathlib.Core.Bool.{Bool, true, false}
use mathlib.Core.List.{List, [], ◌∷◌}
use native.Mathlib.Omega.{arith}
use native.Mathlib.Nat.{min-zero, min-le_left, min-le_right, min-eq_left, min-eq_right, le_of_lt}
use borrow.Author.Tests.{ltb-true, ltb-false, lt-ltb, le-ltb}
use Rattle.day.specs.declared.Power.{Power}
use Rattle.day.specs.declared.Day.{Day}
use Rattle.day.specs.Plan.{Plan, taken}
use Rattle.day.specs.Gap.{price, asleep, ended, gaps_since, gaps, total, cost}
use Rattle.day.proofs.Cases.{give, on}
use Rattle.day.proofs.Plan.{taken_agree, taken_false}

-- what everything else uses of the price

pub price_zero : (power : Power) → price power 0 ≡ 0
unfolding price
price_zero power = min-zero power.wake

pub price_at_most_wake : (power : Power) (g : ℕ) → price power g ≤ power.wake
unfolding price
price_at_most_wake power g = min-le_left power.wake g

pub price_at_most_length : (power : Power) (g : ℕ) → price power g ≤ g
unfolding price
price_at_most_length power g = min-le_right power.wake g

-- a gap of at least a wake costs a wake
pub price_long : (power : Power) (g : ℕ) → power.wake ≤ g → price power g ≡ power.wake
unfolding price
price_long power g l = min-eq_left l

-- a gap of at most a wake costs its length
pub price_short : (power : Power) (g : ℕ) → g ≤ power.wake → price power g ≡ g
unfolding price
price_short power g l = min-eq_right l

-- and of sleep: a gap is asleep exactly if it is longer than a wake

pub asleep_long : (power : Power) (g : ℕ) → power.wake < g → asleep power g ≡ true
unfolding asleep
asleep_long power g l = lt-ltb power.wake g l

pub awake_short : (power : Power) (g : ℕ) → g ≤ power.wake → asleep power g ≡ false
unfolding asleep
awake_short power g l = le-ltb power.wake g l

pub price_asleep : (power : Power) (g : ℕ) → asleep power g ≡ true → price power g ≡ power.wake
unfolding asleep
price_asleep power g h = price_long power g (le_of_lt (ltb-true power.wake g h))

pub price_awake : (power : Power) (g : ℕ) → asleep power g ≡ false → price power g ≡ g
unfolding asleep
price_awake power g h = price_short power g (ltb-false power.wake g h)

-- the clauses of the definitions

pub total_none : (f : ℕ → ℕ) → total f [] ≡ 0
unfolding total
total_none f = refl

pub total_cons : (f : ℕ → ℕ) (x : ℕ) (xs : List ℕ) → total f (x ∷ xs) ≡ f x + total f xs
unfolding total
total_cons f x xs = refl

-- a run with no slot is no gap, and its price is 0
pub total_ended : (power : Power) (g : ℕ) (rest : List ℕ)
    → total (price power) (ended g rest) ≡ price power g + total (price power) rest
unfolding ended
total_ended power zero rest = omega (arith, price_zero power)
total_ended power (suc g) rest = total_cons (price power) (suc g) rest

pub gaps_since_none : (full : ℕ → Bool) (g t : ℕ) → gaps_since full g t 0 ≡ []
unfolding gaps_since
gaps_since_none full g t = refl

pub gaps_since_full : (full : ℕ → Bool) (g t m : ℕ) → full t ≡ true
    → gaps_since full g t (suc m) ≡ ended g (gaps_since full 0 (suc t) m)
unfolding gaps_since
gaps_since_full full g t m e = rw e

pub gaps_since_empty : (full : ℕ → Bool) (g t m : ℕ) → full t ≡ false
    → gaps_since full g t (suc m) ≡ gaps_since full (suc g) (suc t) m
unfolding gaps_since
gaps_since_empty full g t m e = rw e

pub gaps_none : (full : ℕ → Bool) (t : ℕ) → gaps full t 0 ≡ []
unfolding gaps
gaps_none full t = refl

pub gaps_full : (full : ℕ → Bool) (t m : ℕ) → full t ≡ true → gaps full t (suc m) ≡ gaps_since full 0 (suc t) m
unfolding gaps
gaps_full full t m e = rw e

pub gaps_empty : (full : ℕ → Bool) (t m : ℕ) → full t ≡ false → gaps full t (suc m) ≡ gaps full (suc t) m
unfolding gaps
gaps_empty full t m e = rw e

-- only which slots are full matters

gaps_since_same : (full other : ℕ → Bool) (m g t : ℕ) → ((u : ℕ) → u < t + m → full u ≡ other u)
    → gaps_since full g t m ≡ gaps_since other g t m
gaps_since_same full other zero g t f = gaps_since_none full g t ∙ sym (gaps_since_none other g t)
gaps_since_same full other (suc m) g t f =
    give (f t (omega arith))
    (λ w.
    on (full t)
    (λ e.
    gaps_since_full full g t m e
    ∙ ap (ended g) (gaps_since_same full other m 0 (suc t) (λ u l. f u (omega arith)))
    ∙ sym (gaps_since_full other g t m (sym w ∙ e)))
    (λ e.
    gaps_since_empty full g t m e
    ∙ gaps_since_same full other m (suc g) (suc t) (λ u l. f u (omega arith))
    ∙ sym (gaps_since_empty other g t m (sym w ∙ e))))

pub gaps_same : (full other : ℕ → Bool) (m t : ℕ) → ((u : ℕ) → u < t + m → full u ≡ other u)
    → gaps full t m ≡ gaps other t m
gaps_same full other zero t f = gaps_none full t ∙ sym (gaps_none other t)
gaps_same full other (suc m) t f =
    give (f t (omega arith))
    (λ w.
    on (full t)
    (λ e.
    gaps_full full t m e
    ∙ gaps_since_same full other m 0 (suc t) (λ u l. f u (omega arith))
    ∙ sym (gaps_full other t m (sym w ∙ e)))
    (λ e.
    gaps_empty full t m e
    ∙ gaps_same full other m (suc t) (λ u l. f u (omega arith))
    ∙ sym (gaps_empty other t m (sym w ∙ e))))

-- two plans at the same slots cost the same
pub cost_same : (day : Day) (n m : ℕ) (p q : Plan) → ((t : ℕ) → t < day.slots → taken n p t ≡ taken m q t)
    → cost day n p ≡ cost day m q
unfolding cost
cost_same day n m p q f =
    ap (total (price day.power)) (gaps_same (taken n p) (taken m q) day.slots 0 (λ u l. f u (omega arith)))

-- only the first n starts matter
pub cost_agree : (day : Day) (n : ℕ) (p q : Plan) → ((i : ℕ) → i < n → p i ≡ q i) → cost day n p ≡ cost day n q
cost_agree day n p q f = cost_same day n n p q (λ t l. taken_agree n p q f t)

-- no jobs: cost 0

gaps_no_job : (full : ℕ → Bool) (m t : ℕ) → ((u : ℕ) → full u ≡ false) → gaps full t m ≡ []
gaps_no_job full zero t f = gaps_none full t
gaps_no_job full (suc m) t f = gaps_empty full t m (f t) ∙ gaps_no_job full m (suc t) f

pub cost_none : (day : Day) (p : Plan) → cost day 0 p ≡ 0
unfolding cost
cost_none day p =
    rw (gaps_no_job (taken 0 p) day.slots 0 (λ u. taken_false 0 p u (λ w. omega (arith, w.below)))) (total_none (price day.power))

-- the slots before the first job leave no gap
gaps_skip : (full : ℕ → Bool) (k t s m : ℕ) → s ≡ t + k → ((u : ℕ) → u < s → full u ≡ false) → gaps full t (k + m) ≡ gaps full s m
gaps_skip full zero t s m e none =
    let here : s ≡ t = omega arith in
    let all : 0 + m ≡ m = omega arith in
    rw (here, all)
gaps_skip full (suc k) t s m e none =
    let one_more : suc k + m ≡ suc (k + m) = omega arith in
    rw one_more (gaps_empty full t (k + m) (none t (omega arith)) ∙ gaps_skip full k (suc t) s m (omega arith) none)

from_full : (full : ℕ → Bool) (s m : ℕ) → (0 < m → full s ≡ true) → gaps_since full 0 s m ≡ gaps full s m
unfolding ended
from_full full s zero job = gaps_since_none full 0 s ∙ sym (gaps_none full s)
from_full full s (suc m) job = gaps_since_full full 0 s m (job (omega arith)) ∙ sym (gaps_full full s m (job (omega arith)))

-- the walk may begin at the first job
pub gaps_from_first : (full : ℕ → Bool) (slots s : ℕ) → s ≤ slots → ((u : ℕ) → u < s → full u ≡ false) → (s < slots → full s ≡ true)
    → gaps full 0 slots ≡ gaps_since full 0 s (slots - s)
gaps_from_first full slots s within none job =
    let all : slots ≡ s + (slots - s) = omega arith in
    ap (gaps full 0) all
    ∙ gaps_skip full s 0 s (slots - s) (omega arith) none
    ∙ sym (from_full full s (slots - s) (λ h. job (omega arith)))

-- an empty slot after the last job is free

gaps_since_free : (full : ℕ → Bool) (m g t u : ℕ) → u ≡ t + m → full u ≡ false
    → gaps_since full g t (suc m) ≡ gaps_since full g t m
gaps_since_free full zero g t u q h =
    let here : u ≡ t = omega arith in
    gaps_since_empty full g t 0 (rw here at h) ∙ gaps_since_none full (suc g) (suc t) ∙ sym (gaps_since_none full g t)
gaps_since_free full (suc m) g t u q h =
    on (full t)
    (λ e.
    gaps_since_full full g t (suc m) e
    ∙ ap (ended g) (gaps_since_free full m 0 (suc t) u (omega arith) h)
    ∙ sym (gaps_since_full full g t m e))
    (λ e.
    gaps_since_empty full g t (suc m) e
    ∙ gaps_since_free full m (suc g) (suc t) u (omega arith) h
    ∙ sym (gaps_since_empty full g t m e))

gaps_free : (full : ℕ → Bool) (m t u : ℕ) → u ≡ t + m → full u ≡ false → gaps full t (suc m) ≡ gaps full t m
gaps_free full zero t u q h =
    let here : u ≡ t = omega arith in
    gaps_empty full t 0 (rw here at h) ∙ gaps_none full (suc t) ∙ sym (gaps_none full t)
gaps_free full (suc m) t u q h =
    on (full t)
    (λ e.
    gaps_full full t (suc m) e
    ∙ gaps_since_free full m 0 (suc t) u (omega arith) h
    ∙ sym (gaps_full full t m e))
    (λ e.
    gaps_empty full t (suc m) e
    ∙ gaps_free full m (suc t) u (omega arith) h
    ∙ sym (gaps_empty full t m e))

-- a day with more slots at its end
abbrev pub longer : Day → ℕ → Day
longer day m = record { slots = day.slots + m; power = day.power }

pub cost_longer : (day : Day) (n : ℕ) (p : Plan) → ((i : ℕ) → i < n → p i < day.slots) → (m : ℕ)
    → cost (longer day m) n p ≡ cost day n p
unfolding cost
cost_longer day n p inside zero =
    let same : day.slots + 0 ≡ day.slots = omega arith in
    rw same
cost_longer day n p inside (suc m) =
    let more : day.slots + suc m ≡ suc (day.slots + m) = omega arith in
    rw more
    (ap (total (price day.power))
    (gaps_free (taken n p) (day.slots + m) 0 (day.slots + m) (omega arith)
    (taken_false n p (day.slots + m) (λ w. omega (arith, inside w.row w.below))))
    ∙ cost_longer day n p inside m)
