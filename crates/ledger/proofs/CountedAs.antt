-- The five counts: each slot belongs to one, and they add up to the slots. Assumes nothing.
use Prim.Native.Nat.{ℕ, zero, suc, ◌+◌, ◌≤◌, ◌<◌}
use mathlib.Core.Path.{◌≡◌, refl, sym, ◌∙◌, ap}
use mathlib.Core.Bool.{cond}
use native.Mathlib.Omega.{arith}
use lib.Dec.{eqb}
use borrow.Author.Tests.{eq-eqb, ne_eqb}
use Rattle.day.specs.Count.{Count, counted_none, counted, passed_over}
use Rattle.day.proofs.Cases.{give, on_eq}
use Rattle.day.proofs.Count.{count_all, count_none}
use Rattle.ledger.specs.declared.Fill.{Fill}
use Rattle.ledger.specs.declared.Fill.TheVariants.{Job, Before, Awake, Asleep, After}
use Rattle.ledger.specs.declared.Counts.{Counts}
use Rattle.ledger.specs.Sleep.{SleepTest}
use Rattle.ledger.specs.Fills.{Fills}
use Rattle.ledger.specs.Count.{counted_as, CountedAs, Counted}
use Rattle.ledger.proofs.Fills.{fills_unique, fills_some}

-- what count j gains where g slots belong to count k
unfoldable pub gain : ℕ → ℕ → ℕ → ℕ
gain j k g = cond (eqb j k) g 0

gain_here : {j k : ℕ} (g : ℕ) → j ≡ k → gain j k g ≡ g
unfolding gain
gain_here {j} {k} g e = rw (eq-eqb j k e)

gain_other : {j k : ℕ} (g : ℕ) → (j ≡ k → ⊥) → gain j k g ≡ 0
unfolding gain
gain_other {j} {k} g e = rw (ne_eqb j k e)

-- whatever fills a slot, one count gains
gains_one : (f : Fill) → gain 0 (counted_as f) 1 + gain 1 (counted_as f) 1 + gain 2 (counted_as f) 1 + gain 3 (counted_as f) 1 + gain 4 (counted_as f) 1 ≡ 1
unfolding gain
gains_one (Job r) = refl
gains_one Before = refl
gains_one Awake = refl
gains_one Asleep = refl
gains_one After = refl

-- of the slots below m, the five counts
pub record CountedTo (test : SleepTest) (slots : ℕ) (row : ℕ → ℕ) (m : ℕ) (counts : Counts) : Type 0 where
  pub before : Count (CountedAs test slots row 0) m counts.before
  pub job : Count (CountedAs test slots row 1) m counts.job
  pub awake : Count (CountedAs test slots row 2) m counts.awake
  pub asleep : Count (CountedAs test slots row 3) m counts.asleep
  pub after : Count (CountedAs test slots row 4) m counts.after

module _ {test : SleepTest} {slots : ℕ} {row : ℕ → ℕ} where
  pub counted_to_end : {c : Counts} → CountedTo test slots row slots c → Counted test slots row c
  counted_to_end p = record { before = p.before; job = p.job; awake = p.awake; asleep = p.asleep; after = p.after }

  -- what fills a slot says in which count it is
  pub counts_as : {t : ℕ} {f : Fill} → Fills test slots row t f → CountedAs test slots row (counted_as f) t
  counts_as {f = f} p = record { fill = f; fills = p; here = refl }

  pub counted_as_unique : {j k t : ℕ} → t < slots → CountedAs test slots row j t → CountedAs test slots row k t → j ≡ k
  counted_as_unique l p q = sym p.here ∙ ap counted_as (fills_unique l p.fills q.fills) ∙ q.here

  -- a block of g slots that all belong to count k
  pub count_block : {j k m c : ℕ} (g n d : ℕ) → n ≡ m + g → n ≤ slots → ((u : ℕ) → m ≤ u → u < n → CountedAs test slots row k u)
      → Count (CountedAs test slots row j) m c → d ≡ c + gain j k g → Count (CountedAs test slots row j) n d
  count_block {j} {k} {m} {c} g n d e within block p f =
      on_eq j k
      (λ z. count_all g n d e (omega (arith, gain_here g z)) p (λ u h l. rw z (block u h l)))
      (λ z.
      let same : d ≡ c = omega (arith, gain_other g z) in
      rw same (count_none g n e p (λ u h l q. z (counted_as_unique (omega arith) q (block u h l)))))

  pub counted_block : {m : ℕ} {c d : Counts} (k g n : ℕ) → n ≡ m + g → n ≤ slots
      → ((u : ℕ) → m ≤ u → u < n → CountedAs test slots row k u)
      → CountedTo test slots row m c
      → d.before ≡ c.before + gain 0 k g
      → d.job ≡ c.job + gain 1 k g
      → d.awake ≡ c.awake + gain 2 k g
      → d.asleep ≡ c.asleep + gain 3 k g
      → d.after ≡ c.after + gain 4 k g
      → CountedTo test slots row n d
  counted_block k g n e within block p before job awake asleep after =
      record {
        before = count_block g n _ e within block p.before before;
        job = count_block g n _ e within block p.job job;
        awake = count_block g n _ e within block p.awake awake;
        asleep = count_block g n _ e within block p.asleep asleep;
        after = count_block g n _ e within block p.after after;
      }

  -- the count below a slot, from the count up to it
  count_before : {j m c : ℕ} → m < slots → (q : (f : Fill) × Fills test slots row m f) → Count (CountedAs test slots row j) (suc m) c
      → (d : ℕ) × Count (CountedAs test slots row j) m d × (c ≡ d + gain j (counted_as q.0) 1)
  count_before {j} l q (counted {c = d} p h) =
      (d, p, omega (arith, gain_here {j = j} {k = counted_as q.0} 1 (counted_as_unique l h (counts_as q.1))))
  count_before {j} l q (passed_over {c = d} p h) =
      (d, p, omega (arith, gain_other {j = j} {k = counted_as q.0} 1 (λ e. h (record { fill = q.0; fills = q.1; here = sym e }))))

  add_up : (m : ℕ) {b j w a f : ℕ} → m ≤ slots → Count (CountedAs test slots row 0) m b → Count (CountedAs test slots row 1) m j
      → Count (CountedAs test slots row 2) m w → Count (CountedAs test slots row 3) m a → Count (CountedAs test slots row 4) m f
      → b + j + w + a + f ≡ m
  add_up zero l counted_none counted_none counted_none counted_none counted_none = refl
  add_up (suc m) l p q r s t =
      give (fills_some test slots row m (omega arith))
      (λ fill.
      give (count_before (omega arith) fill p)
      (λ before.
      give (count_before (omega arith) fill q)
      (λ job.
      give (count_before (omega arith) fill r)
      (λ awake.
      give (count_before (omega arith) fill s)
      (λ asleep.
      give (count_before (omega arith) fill t)
      (λ after.
      omega (
        arith,
        add_up m (omega arith) before.1 job.1 awake.1 asleep.1 after.1,
        gains_one fill.0,
        before.2,
        job.2,
        awake.2,
        asleep.2,
        after.2,
      )))))))

-- the five counts add up to the slots of the day
pub five_add_up : (test : SleepTest) (slots : ℕ) (row : ℕ → ℕ) (c : Counts) → Counted test slots row c
    → c.before + c.job + c.awake + c.asleep + c.after ≡ slots
five_add_up test slots row c p =
    add_up slots (omega arith) p.before p.job p.awake p.asleep p.after
