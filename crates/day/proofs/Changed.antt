-- Laws of lists that are changed in some places: a store changes one, changes follow each other, and what is right decides the list. Assumes
-- nothing.
use Prim.Native.Nat.{ℕ, ◌+◌, ◌-◌, ◌<◌, ◌≤◌}
use mathlib.Core.Path.{◌≡◌, refl, sym, ◌∙◌, ap}
use mathlib.Core.Logic.{◌⊎◌, inl, inr, ⊎_elim}
use mathlib.Core.List.{List, ◌++◌}
use native.Mathlib.Omega.{arith}
use lib.ListN.{length, set, take, drop, length-set, length-append, get_or-append}
use lib.Seq.{get_or-set_same, get_or-set_other, ext_get_or, length-take-le}
use Rattle.std.proofs.lemmas.List.{length-drop, get_or-drop, get_or-append_right}
use Rattle.day.specs.Windows.{at}
use Rattle.day.specs.Changed.{Changed, Below, FirstFilled}
use Rattle.day.proofs.Cases.{on_eq, on_le}

module _ {Index : Type 0} {place : Index → ℕ} where
  pub changed_nowhere : {These : Index → Type 0} {Right : Index → ℕ → Type 0} {old : List ℕ} → ((x : Index) → These x → ⊥)
      → Changed These place Right old old
  changed_nowhere none = record { long = refl; inside = λ x t. absurd (none x t); outside = λ j n. refl }

  -- a store
  pub changed_one : {Right : Index → ℕ → Type 0} {old : List ℕ} (x : Index) (v : ℕ) → place x < length old → Right x v
      → Changed (λ y. y ≡ x) place Right old (set old (place x) v)
  changed_one {Right} {old} x v h right =
      record {
        long = length-set old (place x) v;
        inside = λ y e. rw (e, get_or-set_same old (place x) v 0 h) right;
        outside = λ j n. get_or-set_other old (place x) j v 0 (n x refl);
      }

  -- changes one after the other, where the second touches nothing of the first
  pub changed_join : {These Those Both : Index → Type 0} {Right : Index → ℕ → Type 0} {old mid new : List ℕ}
      → ((x : Index) → Both x → These x ⊎ Those x)
      → ((x : Index) → These x → Both x) → ((x : Index) → Those x → Both x)
      → ((x y : Index) → These x → Those y → place x ≡ place y → ⊥)
      → Changed These place Right old mid → Changed Those place Right mid new → Changed Both place Right old new
  changed_join either first second apart p q =
      record {
        long = q.long ∙ p.long;
        inside = λ x b.
            ⊎_elim (λ t. rw (q.outside (place x) (λ y u. apart x y t u)) (p.inside x t)) (q.inside x) (either x b);
        outside = λ j n. q.outside j (λ x t. n x (second x t)) ∙ p.outside j (λ x t. n x (first x t));
      }

  -- the places and what is right there may be said in another way
  pub changed_as : {These Those : Index → Type 0} {Right Other : Index → ℕ → Type 0} {old new : List ℕ} → ((x : Index) → These x → Those x)
      → ((x : Index) → Those x → These x) → ((x : Index) (y : ℕ) → Those x → Right x y → Other x y)
      → Changed These place Right old new → Changed Those place Other old new
  changed_as {new = new} there back same p =
      record {
        long = p.long;
        inside = λ x t. same x (at new (place x)) t (p.inside x (back x t));
        outside = λ j n. p.outside j (λ x t. n x (there x t));
      }

  -- where one number is right for each place there is one such list
  pub changed_unique : {These : Index → Type 0} {Right : Index → ℕ → Type 0} {old new other : List ℕ}
      → ((j : ℕ) → ((x : Index) × These x × (j ≡ place x)) ⊎ ((x : Index) → These x → j ≡ place x → ⊥))
      → ((x : Index) (y z : ℕ) → These x → Right x y → Right x z → y ≡ z)
      → Changed These place Right old new → Changed These place Right old other → new ≡ other
  changed_unique {new = new} {other = other} known one p q =
      ext_get_or 0 new other (p.long ∙ sym q.long)
      (λ j h.
      ⊎_elim (λ f. rw f.2 (one f.0 (at new (place f.0)) (at other (place f.0)) f.1 (p.inside f.0 f.1) (q.inside f.0 f.1)))
      (λ n. p.outside j n ∙ sym (q.outside j n)) (known j))

-- of the first n numbers each has a place, and that of the next is another one
pub changed_next : {place : ℕ → ℕ} {Right : ℕ → ℕ → Type 0} {old new : List ℕ} (n v : ℕ) → ((k : ℕ) → k < n → place k ≡ place n → ⊥)
    → place n < length old → Right n v → Changed (Below n) place Right old new → Changed (Below (n + 1)) place Right old (set new (place n) v)
changed_next n v apart h right p =
    changed_join {These = Below n} {Those = λ k. k ≡ n} (λ k l. on_eq k n inr (λ e. inl (omega arith))) (λ k l. omega arith) (λ k e. omega arith)
    (λ k i l e. rw e (apart k l)) p (changed_one n v (omega (arith, p.long)) right)

module _ {Right : ℕ → ℕ → Type 0} {old : List ℕ} where
  pub filled_none : FirstFilled 0 Right old old
  filled_none = changed_nowhere (λ i h. omega arith)

  -- the next place
  pub filled_next : {n v : ℕ} {new : List ℕ} → FirstFilled n Right old new → n < length old → Right n v
      → FirstFilled (n + 1) Right old (set new n v)
  filled_next {n} {v} p h right = changed_next n v (λ k l e. omega arith) h right p

  -- where one number is right for each place there is one such list
  pub filled_unique : {n : ℕ} {new other : List ℕ} → ((i y z : ℕ) → Right i y → Right i z → y ≡ z) → FirstFilled n Right old new
      → FirstFilled n Right old other → new ≡ other
  filled_unique {n} one p q =
      changed_unique (λ j. on_le n j (λ l. inr (λ i h e. omega arith)) (λ l. inl (j, l, refl))) (λ i y z t. one i y z) p q

  -- what stands past the first places
  pub filled_rest : {n : ℕ} {new : List ℕ} → FirstFilled n Right old new → (i : ℕ) → n ≤ i → at new i ≡ at old i
  filled_rest p i l = p.outside i (λ j h e. omega arith)

-- where only the first places were looked at, the rest stays
pub filled_front : {Right Other : ℕ → ℕ → Type 0} {n : ℕ} {old new : List ℕ} → n ≤ length old
    → ((i y : ℕ) → i < n → Right i y → Other i y)
    → FirstFilled n Right (take n old) new → FirstFilled n Other old (new ++ drop n old)
filled_front {n = n} {old} {new} h same p =
    let long : length new ≡ n = p.long ∙ length-take-le n old h in
    record {
      long = omega (arith, length-append new (drop n old), length-drop n old);
      inside = λ i l. rw (get_or-append new (drop n old) 0 i (omega arith)) (same i (at new i) l (p.inside i l));
      outside = λ j none.
          on_le n j
          (λ l.
          get_or-append_right new (drop n old) n j 0 long l
          ∙ get_or-drop n old (j - n) 0
          ∙ ap (at old) (omega arith))
          (λ l. absurd (none j l refl));
    }
