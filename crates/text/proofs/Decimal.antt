-- Laws of decimal numbers: how the digits are made, how many there are, and that they are the number without padding. Assumes nothing.
use Prim.Native.Nat.{ℕ, zero, suc, ◌+◌, ◌*◌, ◌-◌, ◌/◌, ◌%◌, ◌^◌, ◌≤◌, ◌<◌}
use mathlib.Core.Path.{◌≡◌, refl, sym, ◌∙◌, ap}
use mathlib.Core.List.{List, [], ◌∷◌, ◌++◌}
use native.Mathlib.Omega.{arith}
use lib.ListN.{length, get_or, length-append, get_or-append}
use lib.Seq.{get_or-append_seam}
use borrow.Author.Tests.{lt-ltb, le-ltb}
use Rattle.day.proofs.Cases.{on_le, on_eq, give}
use Rattle.text.specs.Decimal.{digits, decimal, digits_value_after, Decimal}

digits_small : (steps n : ℕ) → n < 10 → digits steps n ≡ (48 + n) ∷ []
unfolding digits
digits_small zero n h = refl
digits_small (suc steps) n h = rw (lt-ltb n 10 h)

digits_large : (steps n : ℕ) → 10 ≤ n → digits (suc steps) n ≡ digits steps (n / 10) ++ ((48 + n % 10) ∷ [])
unfolding digits
digits_large steps n h = rw (le-ltb n 10 h)

-- as many steps as the number says are enough
digits_enough : (j k n : ℕ) → n ≤ j → n ≤ k → digits j n ≡ digits k n
digits_enough zero k n h l = digits_small zero n (omega arith) ∙ sym (digits_small k n (omega arith))
digits_enough (suc j) zero n h l = digits_small (suc j) n (omega arith) ∙ sym (digits_small zero n (omega arith))
digits_enough (suc j) (suc k) n h l =
    on_le 10 n
    (λ large. rw (digits_large j n large, digits_large k n large, digits_enough j k (n / 10) (omega arith) (omega arith)))
    (λ small. digits_small (suc j) n small ∙ sym (digits_small (suc k) n small))

pub decimal_small : (n : ℕ) → n < 10 → decimal n ≡ (48 + n) ∷ []
unfolding decimal
decimal_small n h = digits_small n n h

pub decimal_large : (n : ℕ) → 10 ≤ n → decimal n ≡ decimal (n / 10) ++ ((48 + n % 10) ∷ [])
unfolding decimal
decimal_large zero h = absurd (omega arith)
decimal_large (suc n) h =
    digits_large n (suc n) h
    ∙ ap (λ (ds : List ℕ). ds ++ ((48 + suc n % 10) ∷ [])) (digits_enough n (suc n / 10) (suc n / 10) (omega arith) (omega arith))

-- a number below 10 to the k has at most k digits
pub decimal_length : (j n : ℕ) → n < 10 ^ suc j → length (decimal n) ≤ suc j
decimal_length zero n h = rw (decimal_small n (omega arith)) (omega arith)
decimal_length (suc j) n h =
    on_le 10 n
    (λ large. rw (decimal_large n large, length-append) (omega (arith, decimal_length j (n / 10) (omega arith))))
    (λ small. rw (decimal_small n small) (omega arith))

-- a 16-bit number has at most 5 digits
pub decimal_short : (n : ℕ) → n < 65536 → length (decimal n) ≤ 5
decimal_short n h = decimal_length 4 n (omega arith)

-- a row's number has at most 2
pub decimal_two : (n : ℕ) → n < 100 → length (decimal n) ≤ 2
decimal_two n h = decimal_length 1 n (omega arith)

digits_value_snoc : (high : ℕ) (ds : List ℕ) (d : ℕ) → digits_value_after high (ds ++ (d ∷ [])) ≡ 10 * digits_value_after high ds + (d - 48)
unfolding digits_value_after
digits_value_snoc high [] d = refl
digits_value_snoc high (e ∷ ds) d = digits_value_snoc (10 * high + (e - 48)) ds d

digit_alone : (n : ℕ) → n < 10 → Decimal n ((48 + n) ∷ [])
unfolding digits_value_after
digit_alone n h =
    record {
      some = omega arith;
      each = λ i l. on_eq i 0 (λ e. rw e (omega arith, omega arith)) (λ e. absurd (omega arith));
      stands_for = omega arith;
      unpadded = λ l. absurd (omega arith);
    }

-- the first digit of a number that is not 0 is not 0
first_digit : (n : ℕ) (ds : List ℕ) → 0 < n → Decimal n ds → 48 < get_or ds 0 0
unfolding digits_value_after
first_digit n [] h p = absurd (omega (arith, p.some))
first_digit n (d ∷ []) h p = omega (arith, p.stands_for)
first_digit n (d ∷ e ∷ ds) h p = p.unpadded (omega arith)

digit_after : (n d : ℕ) (ds : List ℕ) → 0 < n → d < 10 → Decimal n ds → Decimal (10 * n + d) (ds ++ ((48 + d) ∷ []))
digit_after n d ds h l p =
    record {
      some = simp length-append (omega arith);
      each = λ i within.
          on_eq i (length ds) (λ e. rw (e, get_or-append_seam) (omega arith, omega arith))
          (λ e. rw (get_or-append ds _ 0 i (omega (arith, length-append ds ((48 + d) ∷ [])))) (p.each i (omega (arith, length-append ds ((48 + d) ∷ [])))));
      stands_for = digits_value_snoc 0 ds (48 + d) ∙ rw p.stands_for (omega arith);
      unpadded = λ two. rw (get_or-append ds _ 0 0 p.some) (first_digit n ds h p);
    }

digits_decimal : (steps n : ℕ) → n ≤ steps → Decimal n (digits steps n)
digits_decimal zero n h = rw (digits_small zero n (omega arith)) (digit_alone n (omega arith))
digits_decimal (suc steps) n h =
    on_le 10 n
    (λ large.
    rw (digits_large steps n large)
    (give (digit_after (n / 10) (n % 10) _ (omega arith) (omega arith) (digits_decimal steps (n / 10) (omega arith)))
    (λ made. let whole : 10 * (n / 10) + n % 10 ≡ n = omega arith in rw whole at made)))
    (λ small. rw (digits_small (suc steps) n small) (digit_alone n small))

-- the digits are the number's, without padding
pub decimal_right : (n : ℕ) → Decimal n (decimal n)
unfolding decimal
decimal_right n = digits_decimal n n (omega arith)
