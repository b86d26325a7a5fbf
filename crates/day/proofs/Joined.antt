-- Two lists side by side: proper plans and lateness of the joined list, from those of its parts and back. Assumes nothing.
use Prim.Native.Nat.{ℕ, ◌+◌, ◌-◌, ◌≤◌, ◌<◌}
use mathlib.Core.Path.{◌≡◌, ap}
use mathlib.Core.Logic.{inl, inr, ⊎_elim}
use native.Mathlib.Omega.{arith}
use borrow.Author.Tests.{lt-ltb, le-ltb}
use Rattle.day.specs.declared.Power.{Power}
use Rattle.day.specs.Windows.{Windows}
use Rattle.day.specs.Plan.{Plan, MayStart, Proper}
use Rattle.day.specs.Number.{Lower}
use Rattle.day.specs.Best.{AsLate, same, later}
use Rattle.day.specs.Joined.{beside, following, joined, ListsApart}
use Rattle.day.proofs.Cases.{on_le}

pub beside_first : (n : ℕ) (f g : ℕ → ℕ) (i : ℕ) → i < n → beside n f g i ≡ f i
beside_first n f g i h = rw (lt-ltb i n h)

pub beside_following : (n : ℕ) (f g : ℕ → ℕ) (i : ℕ) → beside n f g (n + i) ≡ g i
beside_following n f g i = rw (le-ltb (n + i) n (omega arith)) (ap g (omega arith))

-- what stands in the place after the first n
pub beside_last : (n : ℕ) (f g : ℕ → ℕ) → beside n f g n ≡ g 0
beside_last n f g = rw (le-ltb n n (omega arith)) (ap g (omega arith))

-- a row of the joined list is a row of the first, or one of the second after the n of the first
pub on_row : (C : ℕ → Type 0) (n m i : ℕ) → i < n + m → ((j : ℕ) → j < n → C j) → ((k : ℕ) → k < m → C (n + k)) → C i
on_row C n m i l first second =
    on_le n i (λ h. let e : n + (i - n) ≡ i = omega arith in rw e at (second (i - n) (omega arith))) (λ h. first i h)

pub beside_most : (n m : ℕ) (f g h k : ℕ → ℕ) → ((i : ℕ) → i < n → f i ≤ g i) → ((i : ℕ) → i < m → h i ≤ k i) → (i : ℕ) → i < n + m
    → beside n f h i ≤ beside n g k i
beside_most n m f g h k first second i l =
    on_row (λ i. beside n f h i ≤ beside n g k i) n m i l
    (λ j b. omega (arith, beside_first n f h j b, beside_first n g k j b, first j b))
    (λ j b. omega (arith, beside_following n f h j, beside_following n g k j, second j b))

module _ (w v : Windows) where
  starts_first : (i t : ℕ) → i < w.count → MayStart (joined w v) i t ≡ MayStart w i t
  starts_first i t l =
      rw (beside_first w.count w.release v.release i l, beside_first w.count w.deadline v.deadline i l)

  starts_following : (i t : ℕ) → MayStart (joined w v) (w.count + i) t ≡ MayStart v i t
  starts_following i t =
      rw (beside_following w.count w.release v.release i, beside_following w.count w.deadline v.deadline i)

  pub first_proper : (r : Plan) → Proper (joined w v) r → Proper w r
  first_proper r P =
      record {
        inside = λ i l. rw (starts_first i (r i) l) at (P.inside i (omega arith));
        apart = λ i j l m e. P.apart i j (omega arith) (omega arith) e;
      }

  pub second_proper : (r : Plan) → Proper (joined w v) r → Proper v (following w.count r)
  second_proper r P =
      record {
        inside = λ i l. rw (starts_following i (following w.count r i)) at (P.inside (w.count + i) (omega arith));
        apart = λ i j l m e. omega (arith, P.apart (w.count + i) (w.count + j) (omega arith) (omega arith) e);
      }

  first_lower : (i j : ℕ) → i < w.count → j < w.count → Lower (joined w v).deadline i j ≡ Lower w.deadline i j
  first_lower i j l m =
      rw (beside_first w.count w.deadline v.deadline i l, beside_first w.count w.deadline v.deadline j m)

  following_lower : (i j : ℕ) → Lower (joined w v).deadline (w.count + i) (w.count + j) → Lower v.deadline i j
  following_lower i j low =
      ⊎_elim (λ h. inl h) (λ h. inr (h.0, omega arith))
      (rw (beside_following w.count w.deadline v.deadline i, beside_following w.count w.deadline v.deadline j) at low)

module _ {power : Power} {g h : ℕ} {w v : Windows} (apart : ListsApart power g h w v) where
  pub first_ends : (p : Plan) → Proper w p → (i : ℕ) → i < w.count → p i < g
  first_ends p P i l = omega (arith, apart.first i l, P.inside i l)

  pub second_begins : (q : Plan) → Proper v q → (k : ℕ) → k < v.count → h ≤ q k
  second_begins q Q k l = omega (arith, apart.second k l, Q.inside k l)

  pub starts_apart : (p q : Plan) → Proper w p → Proper v q → (i k : ℕ) → i < w.count → k < v.count → p i < q k
  starts_apart p q P Q i k l m = omega (arith, apart.order, first_ends p P i l, second_begins q Q k m)

  pub joined_proper : (r : Plan) → Proper w r → Proper v (following w.count r) → Proper (joined w v) r
  joined_proper r P Q =
      record {
        inside = λ i l.
            on_row (λ i. MayStart (joined w v) i (r i)) w.count v.count i l
            (λ j m. rw (starts_first w v j (r j) m) (P.inside j m))
            (λ k m. rw (starts_following w v k (r (w.count + k))) (Q.inside k m));
        apart = λ i j l m.
            on_row (λ i. r i ≡ r j → i ≡ j) w.count v.count i l
            (λ i l.
            on_row (λ j. r i ≡ r j → i ≡ j) w.count v.count j m (λ j m e. P.apart i j l m e)
            (λ k m e. absurd (omega (arith, starts_apart r (following w.count r) P Q i k l m))))
            (λ i l.
            on_row (λ j. r (w.count + i) ≡ r j → w.count + i ≡ j) w.count v.count j m
            (λ j m e. absurd (omega (arith, starts_apart r (following w.count r) P Q j i m l)))
            (λ k m e. ap (λ x. w.count + x) (Q.apart i k l m e)));
      }

  -- every row of the second list has a higher number than every row of the first
  rows_apart : (q : Plan) → Proper v q → (i k : ℕ) → i < w.count → k < v.count → w.deadline i < v.deadline k
  rows_apart q Q i k l m = omega (arith, apart.order, apart.first i l, apart.second k m, Q.inside k m)

  following_not_lower : (q : Plan) → Proper v q → (j k : ℕ) → j < w.count → k < v.count
      → Lower (joined w v).deadline (w.count + k) j → ⊥
  following_not_lower q Q j k l m =
      ⊎_elim
      (λ h.
      omega (
        arith,
        rows_apart q Q j k l m,
        beside_first w.count w.deadline v.deadline j l,
        beside_following w.count w.deadline v.deadline k,
      ))
      (λ h. omega arith)

  pub joined_as_late : (r s q : Plan) → Proper v q → AsLate w r s → AsLate v (following w.count r) (following w.count s)
      → AsLate (joined w v) r s
  joined_as_late r s q Q L (later k l d above) =
      later (w.count + k) (omega arith) d (λ j m.
      on_row (λ j. Lower (joined w v).deadline (w.count + k) j → r j ≡ s j) w.count v.count j m
      (λ j m low. absurd (following_not_lower q Q j k m l low))
      (λ i m low. above i m (following_lower w v k i low)))
  joined_as_late r s q Q (later i l d above) (same e) =
      later i (omega arith) d (λ j m.
      on_row (λ j. Lower (joined w v).deadline i j → r j ≡ s j) w.count v.count j m
      (λ j m low. above j m (rw (first_lower w v i j l m) at low))
      (λ k m low. e k m))
  joined_as_late r s q Q (same f) (same e) = same (λ j m. on_row (λ j. r j ≡ s j) w.count v.count j m f e)
