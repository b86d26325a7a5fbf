-- Tests that antt computes: each comes with what it shows where it passes. Assumes nothing.
use Prim.Native.Nat.{ℕ, zero, suc, ◌≤◌, ◌<◌}
use mathlib.Core.Path.{◌≡◌, refl, sym, ◌∙◌}
use mathlib.Core.Bool.{Bool, true, false, not, ◌&&◌, ◌||◌}
use mathlib.Core.List.{List, [], ◌∷◌}
use mathlib.Core.Logic.{◌⊎◌, inl, inr, ⊎_elim}
use native.Mathlib.Omega.{arith}
use lib.Dec.{ltb, leb, eqb}
use lib.ListN.{length, get_or-eq_default}
use borrow.Author.Tests.{ltb-true, leb-true, eqb-true}
use Rattle.checks.specs.declared.Answer.{Answer}
use Rattle.day.specs.Windows.{at}
use Rattle.day.specs.Changed.{FirstFilled}
use Rattle.day.proofs.Cases.{on_le, on_eq, not_both, and_left, and_right, or_cases}
use Rattle.demands.specs.ExamplesTable.{Each, none, one}

pub record Test (P : Type 0) : Type 0 where
  pub passes : Bool
  pub shows : passes ≡ true → P

abbrev pub less : (a b : ℕ) → Test (a < b)
less a b = record { passes = ltb a b; shows = ltb-true a b }

abbrev pub at_most : (a b : ℕ) → Test (a ≤ b)
at_most a b = record { passes = leb a b; shows = leb-true a b }

abbrev pub equal : (a b : ℕ) → Test (a ≡ b)
equal a b = record { passes = eqb a b; shows = eqb-true a b }

abbrev pub is_true : (b : Bool) → Test (b ≡ true)
is_true b = record { passes = b; shows = λ h. h }

pub not_true : (b : Bool) → not b ≡ true → b ≡ false
not_true true h = sym h
not_true false h = refl

abbrev pub is_false : (b : Bool) → Test (b ≡ false)
is_false b = record { passes = not b; shows = not_true b }

abbrev pub holds : {P : Type 0} → P → Test P
holds p = record { passes = true; shows = λ h. p }

abbrev pub fails : {P : Type 0} → Test P
fails = record { passes = false; shows = λ h. absurd (not_both h refl) }

abbrev pub both : {P Q : Type 0} → Test P → Test Q → Test (P × Q)
both s t =
    record {
      passes = s.passes && t.passes;
      shows = λ h. (s.shows (and_left s.passes t.passes h), t.shows (and_right s.passes t.passes h));
    }

abbrev pub either : {P Q : Type 0} → Test P → Test Q → Test (P ⊎ Q)
either s t =
    record {
      passes = s.passes || t.passes;
      shows = λ h. ⊎_elim (λ l. inl (s.shows l)) (λ l. inr (t.shows l)) (or_cases s.passes t.passes h);
    }

-- a test of P, for what follows from P
abbrev pub through : {P Q : Type 0} → (P → Q) → Test P → Test Q
through f t = record { passes = t.passes; shows = λ h. f (t.shows h) }

-- two tests of one thing
abbrev pub any_of : {P : Type 0} → Test P → Test P → Test P
any_of s t = through (⊎_elim (λ p. p) (λ p. p)) (either s t)

-- a number is not another
abbrev pub differ : (a b : ℕ) → Test (a ≡ b → ⊥)
differ a b = through (⊎_elim (λ l e. omega arith) (λ l e. omega arith)) (either (less a b) (less b a))

-- two ways to go by a number's being another
abbrev pub by_equal : {P Q : Type 0} (a b : ℕ) → Test P → Test Q → Test ((a ≡ b → P) × ((a ≡ b → ⊥) → Q))
by_equal a b s t =
    through (⊎_elim (λ f. (λ e. f.1, λ n. absurd (n f.0))) (λ f. (λ e. absurd (f.0 e), λ n. f.1)))
    (either (both (equal a b) s) (both (differ a b) t))

-- a test of P, and one that P does not hold
pub record BothWays (P : Type 0) : Type 0 where
  pub yes : Test P
  pub no : Test (P → ⊥)

abbrev pub is_less : (a b : ℕ) → BothWays (a < b)
is_less a b = record { yes = less a b; no = through (λ l h. omega arith) (at_most b a) }

abbrev pub is_at_most : (a b : ℕ) → BothWays (a ≤ b)
is_at_most a b = record { yes = at_most a b; no = through (λ l h. omega arith) (less b a) }

abbrev pub is_equal : (a b : ℕ) → BothWays (a ≡ b)
is_equal a b = record { yes = equal a b; no = differ a b }

abbrev pub is_not : {P : Type 0} → BothWays P → BothWays (P → ⊥)
is_not d = record { yes = d.no; no = through (λ p n. n p) d.yes }

abbrev pub is_both : {P Q : Type 0} → BothWays P → BothWays Q → BothWays (P × Q)
is_both d e =
    record {
      yes = both d.yes e.yes;
      no = through (⊎_elim (λ n p. n p.0) (λ n p. n p.1)) (either d.no e.no);
    }

abbrev pub is_either : {P Q : Type 0} → BothWays P → BothWays Q → BothWays (P ⊎ Q)
is_either d e =
    record { yes = either d.yes e.yes; no = through (λ n. ⊎_elim n.0 n.1) (both d.no e.no) }

-- one number more
pub next_below : {P : ℕ → Type 0} (n : ℕ) → P n → ((i : ℕ) → i < n → P i) → (i : ℕ) → i < suc n → P i
next_below n p f i l = on_eq i n (λ q. rw q p) (λ q. f i (omega arith))

-- one test for each number below n
abbrev pub all_below : {P : ℕ → Type 0} → ((i : ℕ) → Test (P i)) → (n : ℕ) → Test ((i : ℕ) → i < n → P i)
all_below t zero = holds (λ i l. absurd (omega arith))
all_below t (suc n) = through (λ f. next_below n f.0 f.1) (both (t n) (all_below t n))

-- one of the numbers below n
abbrev pub some_below : {P : ℕ → Type 0} → ((i : ℕ) → Test (P i)) → (n : ℕ) → Test ((i : ℕ) × (i < n) × P i)
some_below t zero = fails
some_below t (suc n) =
    through (⊎_elim (λ p. (n, omega arith, p)) (λ f. (f.0, omega (arith, f.1), f.2))) (either (t n) (some_below t n))

-- lists are compared as a whole, since a test for each of thousands of numbers is dear
abbrev pub all_equal : List ℕ → List ℕ → Bool
all_equal [] [] = true
all_equal [] (y ∷ ys) = false
all_equal (x ∷ xs) [] = false
all_equal (x ∷ xs) (y ∷ ys) = eqb x y && all_equal xs ys

pub all_equal_same : (xs ys : List ℕ) → all_equal xs ys ≡ true → xs ≡ ys
all_equal_same [] [] h = refl
all_equal_same [] (y ∷ ys) h = absurd (not_both h refl)
all_equal_same (x ∷ xs) [] h = absurd (not_both h refl)
all_equal_same (x ∷ xs) (y ∷ ys) h =
    rw (
      eqb-true x y (and_left (eqb x y) (all_equal xs ys) h),
      all_equal_same xs ys (and_right (eqb x y) (all_equal xs ys) h),
    )

abbrev pub same_numbers : (xs ys : List ℕ) → Test (xs ≡ ys)
same_numbers xs ys = record { passes = all_equal xs ys; shows = all_equal_same xs ys }

pub beyond_both : (n : ℕ) (old new : List ℕ) → length new ≡ length old
    → ((i : ℕ) → i < length old → (i < n) ⊎ (at new i ≡ at old i)) → (i : ℕ) → n ≤ i → at new i ≡ at old i
beyond_both n old new same each i h =
    on_le (length old) i
    (λ l. get_or-eq_default new 0 (omega (arith, same)) ∙ sym (get_or-eq_default old 0 l))
    (λ l. ⊎_elim (λ b. absurd (omega arith)) (λ e. e) (each i l))

-- a list as long as another, with the same numbers from place n on
abbrev pub same_from : (n : ℕ) (old new : List ℕ)
    → Test ((length new ≡ length old) × ((i : ℕ) → n ≤ i → at new i ≡ at old i))
same_from n old new =
    through (λ f. (f.0, beyond_both n old new f.0 f.1))
    (both (equal (length new) (length old))
    (all_below {P = λ i. (i < n) ⊎ (at new i ≡ at old i)} (λ i. either (less i n) (equal (at new i) (at old i))) (length old)))

-- and its first n numbers are right
abbrev pub first_filled : {Right : ℕ → ℕ → Type 0} → ((i y : ℕ) → Test (Right i y)) → (n : ℕ) (old new : List ℕ)
    → Test (FirstFilled n Right old new)
first_filled right n old new =
    through (λ f. record { long = f.0.0; inside = f.1; outside = λ j out. f.0.1 j (on_le n j (λ h. h) (λ h. absurd (out j h refl))) })
    (both (same_from n old new) (all_below (λ i. right i (at new i)) n))

abbrev pub same_answer : (a b : Answer) → Test (a ≡ b)
same_answer a b =
    through (λ f. rw (f.0, f.1.0, f.1.1))
    (both (equal a.code b.code) (both (equal a.first b.first) (equal a.second b.second)))

-- one test for each entry of a list
abbrev pub all_in : {A : Type 0} {P : A → Type 0} → ((x : A) → Test (P x)) → (xs : List A) → Test (Each P xs)
all_in t [] = holds none
all_in t (x ∷ xs) = through (λ f. one f.0 f.1) (both (t x) (all_in t xs))

-- the same, where each entry's test needs a hint
abbrev pub all_with : {A H : Type 0} {P : A → Type 0} → ((h : H) (x : A) → Test (P x)) → List H → (xs : List A) → Test (Each P xs)
all_with t hs [] = holds none
all_with t [] (x ∷ xs) = fails
all_with t (h ∷ hs) (x ∷ xs) = through (λ f. one f.0 f.1) (both (t h x) (all_with t hs xs))
