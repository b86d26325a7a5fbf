-- The walk lists the gaps: the lengths of the maximal runs of empty slots between two jobs, in their order and with none left out.
-- Assumes nothing.
use Prim.Native.Nat.{ℕ, zero, suc, ◌+◌, ◌-◌, ◌≤◌, ◌<◌}
use mathlib.Core.Path.{◌≡◌, refl, ap}
use mathlib.Core.Bool.{Bool, true, false}
use mathlib.Core.List.{List, ◌∷◌}
use native.Mathlib.Omega.{arith}
use Rattle.day.specs.Gap.{EmptyFrom, Gap, NoGap, Listed, no_more, next, ended, gaps_since, gaps}
use Rattle.day.proofs.Cases.{give, on, on_eq, on_le, not_both}
use Rattle.day.proofs.Gap.{gaps_since_none, gaps_since_full, gaps_since_empty, gaps_none, gaps_full, gaps_empty}

-- a gap by the jobs around it: were the slot before it or after it empty, it would not be maximal
pub record JobsAround (full : ℕ → Bool) (slots from g : ℕ) : Type 0 where
  pub later : 1 ≤ from
  pub before : full (from - 1) ≡ true
  pub after : full (from + g) ≡ true
  pub within : from + g < slots

module _ (full : ℕ → Bool) (slots : ℕ) where
  pub gap_around : {from g : ℕ} → Gap full slots from g → JobsAround full slots from g
  gap_around {from} {g} gap =
      give gap.job_before
      (λ b.
      give gap.job_after
      (λ a.
      record {
        later = omega (arith, b.1);
        before =
            on (full (from - 1)) (λ e. e)
            (λ e.
            absurd (omega (
              arith,
              b.1,
              a.1,
              (gap.maximal (from - 1) (from + g) (omega arith) (omega arith) (omega (arith, a.1, a.2))
                  (λ t l h. on_le from t (λ k. gap.empty t k h) (λ k. let here : t ≡ from - 1 = omega arith in rw here e))).0,
            )));
        after =
            on (full (from + g)) (λ e. e)
            (λ e.
            absurd (omega (
              arith,
              a.1,
              a.2,
              (gap.maximal from (from + g + 1) (omega arith) (omega arith)
                  (on_eq a.0 (from + g) (λ z. absurd (not_both a.3 (rw z e))) (λ z. omega (arith, a.1, a.2)))
                  (λ t l h. on_le (from + g) t (λ k. let here : t ≡ from + g = omega arith in rw here e) (λ k. gap.empty t l k))).1,
            )));
        within = on_eq a.0 (from + g) (λ z. omega (arith, a.2)) (λ z. omega (arith, a.1, a.2));
      }))

  pub around_gap : {from g : ℕ} → 1 ≤ g → EmptyFrom full from (from + g) → JobsAround full slots from g → Gap full slots from g
  around_gap {from} {g} some empty next-to =
      record {
        some = omega arith;
        empty = empty;
        maximal = λ a b l h k clear. (
          on_le from a (λ m. omega arith)
              (λ m. absurd (not_both next-to.before (clear (from - 1) (omega arith) (omega arith)))),
          on_le b (from + g) (λ m. omega arith)
              (λ m. absurd (not_both next-to.after (clear (from + g) (omega arith) m))),
        );
        job_before = (from - 1, omega (arith, next-to.later), next-to.before);
        job_after = (from + g, omega arith, next-to.within, next-to.after);
      }

  listed_earlier : {u : ℕ} {gs : List ℕ} (t : ℕ) → t ≤ u → NoGap full slots t u → Listed full slots u gs → Listed full slots t gs
  listed_earlier {u} t l free (no_more f) =
      no_more {t = t} (λ from g a b r. on_le u from (λ c. f from g c b r) (λ c. free from g a c r))
  listed_earlier {u} t l free (next from a f r more) =
      next {t = t} from (omega arith) (λ x h b c s. on_le u x (λ d. f x h d c s) (λ d. free x h b d s)) r more

  -- a job at t ends the run of g empty slots since the job at a
  ended_listed : (g a t : ℕ) (rest : List ℕ) → t ≡ suc a + g → t < slots → full a ≡ true → full t ≡ true
      → ((u : ℕ) → a < u → u < t → full u ≡ false)
      → Listed full slots (suc t) rest
      → Listed full slots (suc a) (ended g rest)
  unfolding ended
  ended_listed zero a t rest q l job end clear more =
      listed_earlier (suc a) (omega arith)
      (λ from h b c r.
      let here : from ≡ t = omega arith in
      not_both end (rw here at (r.empty from (omega arith) (omega (arith, r.some)))))
      more
  ended_listed (suc g) a t rest q l job end clear more =
      let before : suc a - 1 ≡ a = omega arith in
      let after : suc a + suc g ≡ t = omega arith in
      next {t = suc a} {g = suc g} (suc a) (omega arith) (λ from h b c r. absurd (omega arith))
      (around_gap (omega arith) (λ u b c. clear u (omega arith) (omega arith))
      (record { later = omega arith; before = rw before job; after = rw after end; within = omega arith }))
      (listed_earlier (suc (suc a)) (omega arith)
      (λ from h b c r. not_both (gap_around r).before (clear (from - 1) (omega arith) (omega arith))) more)

  -- g slots have been empty since the job at a
  since_listed : (m g a t : ℕ) → t + m ≡ slots → t ≡ suc a + g → full a ≡ true
      → ((u : ℕ) → a < u → u < t → full u ≡ false)
      → Listed full slots (suc a) (gaps_since full g t m)
  since_listed zero g a t p q job clear =
      rw (gaps_since_none full g t)
      (no_more {t = suc a}
      (λ from h l b r.
      give (gap_around r) (λ n. not_both n.after (clear (from + h) (omega arith) (omega (arith, n.within))))))
  since_listed (suc m) g a t p q job clear =
      on (full t)
      (λ e.
      rw (gaps_since_full full g t m e)
      (ended_listed g a t (gaps_since full 0 (suc t) m) q (omega arith) job e clear
      (since_listed m 0 t (suc t) (omega arith) (omega arith) e (λ u b c. absurd (omega arith)))))
      (λ e.
      rw (gaps_since_empty full g t m e)
      (since_listed m (suc g) a (suc t) (omega arith) (omega arith) job
      (λ u b c. on_eq u t (λ z. rw z e) (λ z. clear u b (omega arith)))))

  -- no job stands before t
  before_listed : (m t : ℕ) → t + m ≡ slots → ((u : ℕ) → u < t → full u ≡ false) → Listed full slots 0 (gaps full t m)
  before_listed zero t p clear =
      rw (gaps_none full t)
      (no_more {t = 0} (λ from g l b r. give (gap_around r) (λ n. not_both n.after (clear (from + g) (omega (arith, n.within))))))
  before_listed (suc m) t p clear =
      on (full t)
      (λ e.
      rw (gaps_full full t m e)
      (listed_earlier 0 (omega arith)
      (λ from g l b r. give (gap_around r) (λ n. not_both n.before (clear (from - 1) (omega (arith, n.later)))))
      (since_listed m 0 t (suc t) (omega arith) (omega arith) e (λ u b c. absurd (omega arith)))))
      (λ e.
      rw (gaps_empty full t m e)
      (before_listed m (suc t) (omega arith) (λ u l. on_eq u t (λ z. rw z e) (λ z. clear u (omega arith)))))

  pub gaps_listed : Listed full slots 0 (gaps full 0 slots)
  gaps_listed = before_listed slots 0 (omega arith) (λ u l. absurd (omega arith))

  -- a gap is as long as it is
  gap_length : (from g h : ℕ) → Gap full slots from g → Gap full slots from h → h ≤ g
  gap_length from g h r s =
      on_le h g (λ l. l) (λ l. absurd (not_both (gap_around r).after (s.empty (from + g) (omega arith) (omega arith))))

  -- one list at most
  pub listed_unique : {t : ℕ} {gs hs : List ℕ} → Listed full slots t gs → Listed full slots t hs → gs ≡ hs
  listed_unique (no_more f) (no_more k) = refl
  listed_unique (no_more f) (next from l k r more) = absurd (f from _ l (omega (arith, (gap_around r).within)) r)
  listed_unique (next from l f r more) (no_more k) = absurd (k from _ l (omega (arith, (gap_around r).within)) r)
  listed_unique (next {g = g} from l f r more) (next {g = h} x b k s others) =
      on_le from x
      (λ c.
      on_le x from
      (λ d.
      let same : x ≡ from = omega arith in
      let gap : Gap full slots from h = rw same at s in
      let rest : Listed full slots (suc from) _ = rw same at others in
      let length : g ≡ h = omega (arith, gap_length from g h r gap, gap_length from h g gap r) in
      rw length (ap (λ (gs : List ℕ). h ∷ gs) (listed_unique more rest)))
      (λ d. absurd (k from g l d r)))
      (λ c. absurd (f x h b c s))
