-- A list with rows put over its own: the rows up to their count, and beyond it what the list held. Assumes nothing.
use Prim.Native.Nat.{ℕ, zero, suc, ◌+◌, ◌<◌, ◌≤◌}
use mathlib.Core.Path.{◌≡◌, refl, sym, ◌∙◌, ap, subst}
use mathlib.Core.List.{List, map}
use native.Mathlib.Omega.{arith}
use native.Mathlib.Numerals.{add-one}
use lib.Dec.{ltb}
use lib.ListN.{length, length-map, length-set}
use Rattle.std.proofs.lemmas.List.{map-set}
use borrow.Author.Tests.{le-ltb, ltb-true, ltb-false}
use Rattle.day.proofs.Cases.{on}
use Rattle.day.specs.declared.Job.{Job}
use Rattle.day.specs.Changed.{FirstFilled}
use Rattle.day.proofs.Changed.{filled_none, filled_next}
use Rattle.rows.specs.declared.Rows.{Rows}
use Rattle.rows.specs.Rows.{put_count, put_first, put_over, job_at}

pub put_within : (places count m : ℕ) → m ≡ put_count places count → m ≤ places
put_within places count m e =
    on (ltb 41 count) (λ h. omega (arith, rw h at e))
    (λ h. on (ltb places count) (λ g. omega (arith, rw (h, g) at e)) (λ g. omega (arith, rw (h, g) at e, ltb-false places count g)))

pub put_few : (places count m : ℕ) → m ≡ put_count places count → m ≤ 41
put_few places count m e =
    on (ltb 41 count) (λ h. omega (arith, rw h at e))
    (λ h.
    on (ltb places count) (λ g. omega (arith, rw (h, g) at e, ltb-false 41 count h, ltb-true places count g))
    (λ g. omega (arith, rw (h, g) at e, ltb-false 41 count h)))

-- rows put over a list keep its length, and where there are none they leave it
pub put_length : (k : ℕ) (jobs : List Job) (rows : Rows) → length (put_first k jobs rows) ≡ length jobs
put_length zero jobs rows = refl
put_length (suc k) jobs rows = length-set (put_first k jobs rows) k (job_at rows k) ∙ put_length k jobs rows

pub put_none : (jobs : List Job) (rows : Rows) → rows.count ≡ 0 → put_over jobs rows ≡ jobs
put_none jobs rows e = ap (λ (c : ℕ). put_first (put_count (length jobs) c) jobs rows) e ∙ rw (le-ltb (length jobs) 0 (omega arith))

-- of either column, the first places are filled by the rows
module _ (jobs : List Job) (rows : Rows) {Right : ℕ → ℕ → Type 0} (f : Job → ℕ) where
  first_filled : (k : ℕ) → k ≤ length jobs → ((i : ℕ) → i < k → Right i (f (job_at rows i)))
      → FirstFilled k Right (map f jobs) (map f (put_first k jobs rows))
  first_filled zero h right = filled_none
  first_filled (suc k) h right =
      subst (λ (n : ℕ). FirstFilled n Right (map f jobs) (map f (put_first (suc k) jobs rows))) (add-one k)
      (subst (λ (xs : List ℕ). FirstFilled (k + 1) Right (map f jobs) xs) (sym (map-set f (put_first k jobs rows) k (job_at rows k)))
      (filled_next (first_filled k (omega arith) (λ i l. right i (omega arith))) (omega (arith, length-map jobs f)) (right k (omega arith))))

  pub put_filled : {n : ℕ} → rows.count ≡ n → n ≤ 41 → n ≤ length jobs → ((i : ℕ) → i < n → Right i (f (job_at rows i)))
      → FirstFilled n Right (map f jobs) (map f (put_over jobs rows))
  put_filled {n} count few room right =
      let all : put_over jobs rows ≡ put_first n jobs rows =
      ap (λ (c : ℕ). put_first (put_count (length jobs) c) jobs rows) count ∙ rw (le-ltb 41 n few, le-ltb (length jobs) n room)
      in
      subst (λ (js : List Job). FirstFilled n Right (map f jobs) (map f js)) (sym all) (first_filled n room right)
