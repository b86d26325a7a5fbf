-- Fewer gaps than rows: between n starts there are at most n - 1 gaps. Assumes nothing.
use Prim.Native.Nat.{ℕ, zero, suc, ◌-◌, ◌≤◌}
use mathlib.Core.Path.{◌≡◌, refl, sym}
use mathlib.Core.Bool.{Bool, true, false, cond}
use mathlib.Core.List.{List}
use native.Mathlib.Omega.{arith}
use lib.ListN.{length}
use Rattle.day.specs.Plan.{Plan, taken}
use Rattle.day.specs.Gap.{ended, gaps_since, gaps}
use Rattle.day.proofs.Cases.{give, on, on_eq}
use Rattle.day.proofs.Plan.{taken_other}
use Rattle.day.proofs.Gap.{gaps_since_none, gaps_since_full, gaps_since_empty, gaps_none, gaps_full, gaps_empty}

-- how many of the m slots from t on are full
unfoldable fulls : (ℕ → Bool) → ℕ → ℕ → ℕ
fulls full t zero = 0
fulls full t (suc m) = cond (full t) (suc (fulls full (suc t) m)) (fulls full (suc t) m)

fulls_full : (full : ℕ → Bool) (t m : ℕ) → full t ≡ true → fulls full t (suc m) ≡ suc (fulls full (suc t) m)
unfolding fulls
fulls_full full t m e = rw e

fulls_empty : (full : ℕ → Bool) (t m : ℕ) → full t ≡ false → fulls full t (suc m) ≡ fulls full (suc t) m
unfolding fulls
fulls_empty full t m e = rw e

fulls_same : (full other : ℕ → Bool) (m t : ℕ) → ((u : ℕ) → t ≤ u → full u ≡ other u) → fulls full t m ≡ fulls other t m
unfolding fulls
fulls_same full other zero t f = refl
fulls_same full other (suc m) t f = rw (f t (omega arith), fulls_same full other m (suc t) (λ u l. f u (omega arith)))

-- a slot is full or not
fulls_next : (full : ℕ → Bool) (t m : ℕ)
    → (fulls full (suc t) m ≤ fulls full t (suc m)) × (fulls full t (suc m) ≤ suc (fulls full (suc t) m))
fulls_next full t m =
    on (full t) (λ e. rw (fulls_full full t m e) (omega arith, omega arith))
    (λ e. rw (fulls_empty full t m e) (omega arith, omega arith))

fulls_but_one : (full other : ℕ → Bool) (x m t : ℕ) → ((u : ℕ) → (u ≡ x → ⊥) → full u ≡ other u)
    → fulls full t m ≤ suc (fulls other t m)
unfolding fulls
fulls_but_one full other x zero t f = omega arith
fulls_but_one full other x (suc m) t f =
    on_eq t x
    (λ q.
    omega (
      arith,
      fulls_same full other m (suc t) (λ u l. f u (λ z. omega arith)),
      (fulls_next full t m).1,
      (fulls_next other t m).0,
    ))
    (λ n.
    give (fulls_but_one full other x m (suc t) f)
    (λ rest. on (other t) (λ d. rw (f t n, d) (omega arith)) (λ d. rw (f t n, d) (omega arith))))

fulls_none : (p : Plan) (m t : ℕ) → fulls (taken 0 p) t m ≡ 0
unfolding fulls taken
fulls_none p zero t = refl
fulls_none p (suc m) t = fulls_none p m (suc t)

-- no more slots are full than there are rows
fulls_taken : (p : Plan) (m t n : ℕ) → fulls (taken n p) t m ≤ n
fulls_taken p m t zero = omega (arith, fulls_none p m t)
fulls_taken p m t (suc n) =
    omega (
      arith,
      fulls_but_one (taken (suc n) p) (taken n p) (p n) m t (λ u l. taken_other n p u (λ z. l (sym z))),
      fulls_taken p m t n,
    )

-- a job ends one gap at most

ended_length : (g : ℕ) (rest : List ℕ) → length (ended g rest) ≤ suc (length rest)
unfolding ended
ended_length zero rest = omega arith
ended_length (suc g) rest = omega arith

gaps_since_length : (full : ℕ → Bool) (m g t : ℕ) → length (gaps_since full g t m) ≤ fulls full t m
gaps_since_length full zero g t = rw (gaps_since_none full g t) (omega arith)
gaps_since_length full (suc m) g t =
    on (full t)
    (λ e.
    rw (gaps_since_full full g t m e, fulls_full full t m e)
    (omega (arith, ended_length g (gaps_since full 0 (suc t) m), gaps_since_length full m 0 (suc t))))
    (λ e. rw (gaps_since_empty full g t m e, fulls_empty full t m e) (gaps_since_length full m (suc g) (suc t)))

-- and the first ends none
gaps_length : (full : ℕ → Bool) (m t : ℕ) → length (gaps full t m) ≤ fulls full t m - 1
gaps_length full zero t = rw (gaps_none full t) (omega arith)
gaps_length full (suc m) t =
    on (full t)
    (λ e. rw (gaps_full full t m e) (omega (arith, fulls_full full t m e, gaps_since_length full m 0 (suc t))))
    (λ e. rw (gaps_empty full t m e, fulls_empty full t m e) (gaps_length full m (suc t)))

pub fewer_gaps_than_rows : (n : ℕ) (p : Plan) (slots : ℕ) → length (gaps (taken n p) 0 slots) ≤ n - 1
fewer_gaps_than_rows n p slots = omega (arith, gaps_length (taken n p) slots 0, fulls_taken p slots 0 n)
