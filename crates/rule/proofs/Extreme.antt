-- The laws of `least` and `latest`. Assumes nothing.
use Prim.Native.Nat.{ℕ, zero, suc, ◌+◌, ◌≤◌, ◌<◌, min}
use mathlib.Core.Path.{◌≡◌, refl, sym, ◌∙◌, ap}
use mathlib.Core.Bool.{Bool, true, false, cond}
use native.Mathlib.Numerals.{add-one}
use native.Mathlib.Omega.{arith}
use Rattle.day.proofs.Cases.{on, on_eq, on_le, give, not_both}
use Rattle.rule.specs.Extreme.{least, latest}

pub least_zero : (pass : ℕ → Bool) (f : ℕ → ℕ) (none : ℕ) → least pass f none 0 ≡ none
unfolding least
least_zero pass f none = refl

-- the next place passes, or not: as an induction has it
pass_suc : (pass : ℕ → Bool) (f : ℕ → ℕ) (none m : ℕ) → pass m ≡ true
    → least pass f none (suc m) ≡ min (f m) (least pass f none m)
unfolding least
pass_suc pass f none m e = rw e

skip_suc : (pass : ℕ → Bool) (f : ℕ → ℕ) (none m : ℕ) → pass m ≡ false → least pass f none (suc m) ≡ least pass f none m
unfolding least
skip_suc pass f none m e = rw e

-- and as code has it
pub least_pass : (pass : ℕ → Bool) (f : ℕ → ℕ) (none m : ℕ) → pass m ≡ true
    → least pass f none (m + 1) ≡ min (f m) (least pass f none m)
least_pass pass f none m e = rw add-one (pass_suc pass f none m e)

pub least_skip : (pass : ℕ → Bool) (f : ℕ → ℕ) (none m : ℕ) → pass m ≡ false
    → least pass f none (m + 1) ≡ least pass f none m
least_skip pass f none m e = rw add-one (skip_suc pass f none m e)

-- no value of a place that passes is less
pub least_le : (pass : ℕ → Bool) (f : ℕ → ℕ) (none m t : ℕ) → t < m → pass t ≡ true → least pass f none m ≤ f t
least_le pass f none zero t h p = omega arith
least_le pass f none (suc m) t h p =
    on_eq t m
    (λ q. on (pass m) (λ e. omega (arith, pass_suc pass f none m e, ap f q)) (λ e. absurd (not_both (rw q at p) e)))
    (λ q.
    give (least_le pass f none m t (omega arith) p)
    (λ ih. on (pass m) (λ e. omega (arith, pass_suc pass f none m e)) (λ e. omega (arith, skip_suc pass f none m e))))

pub least_none_bound : (pass : ℕ → Bool) (f : ℕ → ℕ) (none m : ℕ) → least pass f none m ≤ none
least_none_bound pass f none zero = omega (arith, least_zero pass f none)
least_none_bound pass f none (suc m) =
    give (least_none_bound pass f none m)
    (λ ih. on (pass m) (λ e. omega (arith, pass_suc pass f none m e)) (λ e. omega (arith, skip_suc pass f none m e)))

-- a place below m that passes and has the value v
pub record Attained (pass : ℕ → Bool) (f : ℕ → ℕ) (m v : ℕ) : Type 0 where
  pub at : ℕ
  pub below : at < m
  pub passes : pass at ≡ true
  pub is : f at ≡ v

pub least_found : (pass : ℕ → Bool) (f : ℕ → ℕ) (none m : ℕ) → least pass f none m < none
    → Attained pass f m (least pass f none m)
least_found pass f none zero h = absurd (omega (arith, least_zero pass f none))
least_found pass f none (suc m) h =
    on (pass m)
    (λ e.
    give (pass_suc pass f none m e)
    (λ w.
    on_le (f m) (least pass f none m)
    (λ l. record { at = m; below = omega arith; passes = e; is = omega arith })
    (λ l.
    give (least_found pass f none m (omega arith))
    (λ a. record { at = a.at; below = omega arith; passes = a.passes; is = omega arith }))))
    (λ e.
    give (skip_suc pass f none m e)
    (λ w.
    give (least_found pass f none m (omega arith))
    (λ a. record { at = a.at; below = omega arith; passes = a.passes; is = omega arith })))

-- only the tests below m and the values of what passes matter
pub least_cong : (pass other : ℕ → Bool) (f g : ℕ → ℕ) (none m : ℕ) → ((t : ℕ) → t < m → pass t ≡ other t)
    → ((t : ℕ) → t < m → pass t ≡ true → f t ≡ g t) → least pass f none m ≡ least other g none m
least_cong pass other f g none zero p v = least_zero pass f none ∙ sym (least_zero other g none)
least_cong pass other f g none (suc m) p v =
    give (least_cong pass other f g none m (λ t l. p t (omega arith)) (λ t l. v t (omega arith)))
    (λ ih.
    give (p m (omega arith))
    (λ q.
    on (pass m)
    (λ e. omega (arith, pass_suc pass f none m e, pass_suc other g none m (sym q ∙ e), v m (omega arith) e))
    (λ e. omega (arith, skip_suc pass f none m e, skip_suc other g none m (sym q ∙ e)))))

-- places that fail add nothing
pub least_none_pass : (pass : ℕ → Bool) (f : ℕ → ℕ) (none a b : ℕ) → a ≤ b → ((t : ℕ) → a ≤ t → t < b → pass t ≡ false)
    → least pass f none b ≡ least pass f none a
least_none_pass pass f none a zero l n = ap (least pass f none) (omega arith)
least_none_pass pass f none a (suc b) l n =
    on_eq a (suc b) (λ q. ap (least pass f none) (sym q))
    (λ q.
    skip_suc pass f none b (n b (omega arith) (omega arith))
    ∙ least_none_pass pass f none a b (omega arith) (λ t h u. n t h (omega arith)))

-- the next place passes, or not
latest_next : (pass : ℕ → Bool) (m : ℕ) → pass m ≡ true → latest pass (suc m) ≡ m
unfolding latest
latest_next pass m e = ap (λ (b : Bool). cond b m (latest pass m)) e

latest_before : (pass : ℕ → Bool) (m : ℕ) → pass m ≡ false → latest pass (suc m) ≡ latest pass m
unfolding latest
latest_before pass m e = ap (λ (b : Bool). cond b m (latest pass m)) e

-- l passes below m, and t is no later
pub record Latest (pass : ℕ → Bool) (m t l : ℕ) : Type 0 where
  pub below : l < m
  pub passes : pass l ≡ true
  pub late : t ≤ l

pub latest_is : (pass : ℕ → Bool) (m t : ℕ) → t < m → pass t ≡ true → Latest pass m t (latest pass m)
latest_is pass zero t h p = absurd (omega arith)
latest_is pass (suc m) t h p =
    on (pass m)
    (λ e. rw (latest_next pass m e) (record { below = omega arith; passes = e; late = omega arith }))
    (λ e. rw (latest_before pass m e)
    (on_eq t m (λ q. absurd (not_both (rw q at p) e))
    (λ q.
    give (latest_is pass m t (omega arith) p)
    (λ w. record { below = omega arith; passes = w.passes; late = w.late }))))

-- only the tests below m matter
pub latest_cong : (pass other : ℕ → Bool) (m : ℕ) → ((t : ℕ) → t < m → pass t ≡ other t) → latest pass m ≡ latest other m
unfolding latest
latest_cong pass other zero p = refl
latest_cong pass other (suc m) p = rw (p m (omega arith), latest_cong pass other m (λ t l. p t (omega arith)))
