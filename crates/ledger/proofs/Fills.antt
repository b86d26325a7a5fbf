-- One thing fills each slot of the day; a fit plan's rows fill the slots in which they start. Assumes nothing.
use Prim.Native.Nat.{ℕ, zero, suc, ◌+◌, ◌-◌, ◌≤◌, ◌<◌}
use mathlib.Core.Path.{◌≡◌, refl, sym, ◌∙◌}
use mathlib.Core.Bool.{true, false}
use mathlib.Core.Logic.{◌⊎◌, inl, inr, ⊎_elim}
use mathlib.Core.List.{List}
use native.Mathlib.Omega.{arith}
use Rattle.day.specs.Windows.{Windows, at}
use Rattle.checks.specs.Refusal.{First}
use Rattle.day.proofs.Cases.{give, on, on_eq, on_le, not_both}
use Rattle.checks.proofs.Refusal.{first_or_none}
use Rattle.claim.specs.Claim.{Fit}
use Rattle.claim.proofs.Rows.{row_at_own}
use Rattle.ledger.specs.declared.Fill.{Fill}
use Rattle.ledger.specs.declared.Fill.TheVariants.{Job, Before, Awake, Asleep, After}
use Rattle.ledger.specs.Sleep.{SleepTest}
use Rattle.ledger.specs.Fills.{Empty, Busy, InGap, Fills, by_job, before_first, after_last, in_awake, in_asleep}
use Rattle.ledger.specs.Promise.{plan_row}
use Rattle.ledger.specs.steps.Run.{LastJob}
use Rattle.ledger.proofs.InGap.{GapAround, around, in_gap}

pub not_busy : (row : ℕ → ℕ) (t : ℕ) → (Busy row t → ⊥) → Empty row t
not_busy row t n = on_eq (row t) 0 (λ e. e) (λ b. absurd (n b))

module _ {slots : ℕ} {row : ℕ → ℕ} {t : ℕ} where
  gap_empty : {g : ℕ} → InGap slots row t g → Empty row t
  gap_empty p = give (around p) (λ q. q.empty t q.after_last q.before_next)

  -- two gaps around one slot begin and end together
  same_last : {g h : ℕ} (p : GapAround slots row t g) (q : GapAround slots row t h) → p.last ≤ q.last
  same_last p q =
      on_le p.last q.last (λ l. l)
      (λ l. absurd (p.job_before (q.empty p.last l (omega (arith, p.after_last, q.before_next)))))

  same_end : {g h : ℕ} → GapAround slots row t g → GapAround slots row t h → h ≤ g
  same_end {g} {h} p q =
      on_le h g (λ l. l)
      (λ l. absurd (p.job_after (q.empty (p.last + g + 1) (omega (arith, same_last q p)) (omega (arith, same_last p q)))))

  gap_unique : {g h : ℕ} → InGap slots row t g → InGap slots row t h → g ≡ h
  gap_unique p q = omega (arith, same_end (around p) (around q), same_end (around q) (around p))

  -- asleep and awake are different gaps
  gap_one_way : (test : SleepTest) {g h : ℕ} → InGap slots row t g → test g ≡ false → InGap slots row t h → test h ≡ true → ⊥
  gap_one_way test p e q f = not_both (rw (gap_unique p q) f) e

  before_gap : {g : ℕ} → ((u : ℕ) → u ≤ t → Empty row u) → InGap slots row t g → ⊥
  before_gap none p = give (around p) (λ q. q.job_before (none q.last (omega (arith, q.after_last))))

  after_gap : {g : ℕ} (last : ℕ) → last < t → ((u : ℕ) → last < u → u < slots → Empty row u) → InGap slots row t g → ⊥
  after_gap {g} last h none p =
      give (around p) (λ q. q.job_after (none (q.last + g + 1) (omega (arith, q.before_next)) q.within))

  pub fills_unique : {test : SleepTest} {f h : Fill} → t < slots → Fills test slots row t f → Fills test slots row t h → f ≡ h
  fills_unique l (by_job b) (by_job c) = refl
  fills_unique l (by_job b) (before_first n) = absurd (b (n t (omega arith)))
  fills_unique l (by_job b) (after_last s h c n) = absurd (b (n t h l))
  fills_unique l (by_job b) (in_awake g p e) = absurd (b (gap_empty p))
  fills_unique l (by_job b) (in_asleep g p e) = absurd (b (gap_empty p))
  fills_unique l (before_first n) (by_job b) = absurd (b (n t (omega arith)))
  fills_unique l (before_first n) (before_first m) = refl
  fills_unique l (before_first n) (after_last s h c m) = absurd (c (n s (omega arith)))
  fills_unique l (before_first n) (in_awake g p e) = absurd (before_gap n p)
  fills_unique l (before_first n) (in_asleep g p e) = absurd (before_gap n p)
  fills_unique l (after_last s h c n) (by_job b) = absurd (b (n t h l))
  fills_unique l (after_last s h c n) (before_first m) = absurd (c (m s (omega arith)))
  fills_unique l (after_last s h c n) (after_last s' h' c' n') = refl
  fills_unique l (after_last s h c n) (in_awake g p e) = absurd (after_gap s h n p)
  fills_unique l (after_last s h c n) (in_asleep g p e) = absurd (after_gap s h n p)
  fills_unique l (in_awake g p e) (by_job b) = absurd (b (gap_empty p))
  fills_unique l (in_awake g p e) (before_first n) = absurd (before_gap n p)
  fills_unique l (in_awake g p e) (after_last s h c n) = absurd (after_gap s h n p)
  fills_unique l (in_awake g p e) (in_awake h q f) = refl
  fills_unique {test} l (in_awake g p e) (in_asleep h q f) = absurd (gap_one_way test p e q f)
  fills_unique l (in_asleep g p e) (by_job b) = absurd (b (gap_empty p))
  fills_unique l (in_asleep g p e) (before_first n) = absurd (before_gap n p)
  fills_unique l (in_asleep g p e) (after_last s h c n) = absurd (after_gap s h n p)
  fills_unique {test} l (in_asleep g p e) (in_awake h q f) = absurd (gap_one_way test q f p e)
  fills_unique l (in_asleep g p e) (in_asleep h q f) = refl

  -- by a test that says the same of the gap around it, the same fills a slot
  pub fills_by : {test other : SleepTest} {f : Fill} → ((g : ℕ) → InGap slots row t g → test g ≡ other g) → Fills test slots row t f
      → Fills other slots row t f
  fills_by same (by_job b) = by_job b
  fills_by same (before_first n) = before_first n
  fills_by same (after_last s h b n) = after_last s h b n
  fills_by same (in_awake g p e) = in_awake g p (sym (same g p) ∙ e)
  fills_by same (in_asleep g p e) = in_asleep g p (sym (same g p) ∙ e)

  -- what fills a slot tells which gap it lies in, if in any
  gap_by_fill : {test : SleepTest} {f : Fill} (g : ℕ) → Fills test slots row t f → InGap slots row t g ⊎ (InGap slots row t g → ⊥)
  gap_by_fill g (by_job b) = inr (λ p. b (gap_empty p))
  gap_by_fill g (before_first n) = inr (λ p. before_gap n p)
  gap_by_fill g (after_last s h b n) = inr (λ p. after_gap s h n p)
  gap_by_fill g (in_awake h p e) = on_eq h g (λ z. inl (rw z at p)) (λ z. inr (λ q. z (gap_unique p q)))
  gap_by_fill g (in_asleep h p e) = on_eq h g (λ z. inl (rw z at p)) (λ z. inr (λ q. z (gap_unique p q)))

last_or_none : (row : ℕ → ℕ) (t : ℕ) → ((last : ℕ) × LastJob row t last) ⊎ ((u : ℕ) → u < t → Empty row u)
last_or_none row zero = inr (λ u h. absurd (omega arith))
last_or_none row (suc t) =
    on_eq (row t) 0
    (λ e.
    ⊎_elim
    (λ p.
    inl (
      p.0,
      record {
        earlier = omega (arith, p.1.earlier);
        job = p.1.job;
        empty = λ u h l. on_eq u t (λ z. rw z e) (λ z. p.1.empty u h (omega arith));
      },
    ))
    (λ n. inr (λ u l. on_eq u t (λ z. rw z e) (λ z. n u (omega arith))))
    (last_or_none row t))
    (λ b. inl (t, record { earlier = omega arith; job = b; empty = λ u h l. absurd (omega arith) }))

-- a slot comes after t and holds a job
abbrev LaterJob : (ℕ → ℕ) → ℕ → ℕ → Type 0
LaterJob row t u = (t < u) × Busy row u

later_job_known : (row : ℕ → ℕ) (t u : ℕ) → LaterJob row t u ⊎ (LaterJob row t u → ⊥)
later_job_known row t u =
    on_le u t (λ h. inr (λ p. omega (arith, p.0)))
    (λ h. on_eq (row u) 0 (λ e. inr (λ p. p.1 e)) (λ b. inl (h, b)))

module _ (test : SleepTest) (slots : ℕ) (row : ℕ → ℕ) (t : ℕ) (within : t < slots) where
  between : Empty row t → (s : ℕ) → LastJob row t s → (n : ℕ) → First slots (LaterJob row t) n → (f : Fill) × Fills test slots row t f
  between e s p n q =
      on (test (n - suc s)) (λ z. (Asleep, in_asleep (n - suc s) gap z))
      (λ z. (Awake, in_awake (n - suc s) gap z))
    where
      next : s + (n - suc s) + 1 ≡ n
      next = omega (arith, p.earlier, q.fault.0)

      clear : (u : ℕ) → t < u → u < n → Empty row u
      clear u h l = not_busy row u (λ b. q.lowest u l (h, b))

      gap : InGap slots row t (n - suc s)
      gap =
          in_gap
          (record {
            last = s;
            job_before = p.job;
            after_last = p.earlier;
            empty = λ u h l.
                on_le t u (λ k. on_eq u t (λ z. rw z e) (λ z. clear u (omega arith) (omega (arith, next)))) (λ k. p.empty u h k);
            before_next = omega (arith, next, q.fault.0);
            job_after = rw next q.fault.1;
            within = omega (arith, next, q.within);
          })

  -- something fills each slot
  pub fills_some : (f : Fill) × Fills test slots row t f
  fills_some =
      on_eq (row t) 0
      (λ e.
      ⊎_elim
      (λ p.
      ⊎_elim (λ q. between e p.0 p.1 q.0 q.1)
      (λ n. (
        After,
        after_last p.0 p.1.earlier p.1.job
            (λ u h l.
            on_le t u
            (λ k. on_eq u t (λ z. rw z e) (λ z. not_busy row u (λ b. n u l (omega arith, b))))
            (λ k. p.1.empty u h k)),
      ))
      (first_or_none (later_job_known row t) slots))
      (λ n. (Before, before_first (λ u h. on_eq u t (λ z. rw z e) (λ z. n u (omega arith)))))
      (last_or_none row t))
      (λ b. (Job (row t), by_job b))

  pub in_gap_known : (g : ℕ) → InGap slots row t g ⊎ (InGap slots row t g → ⊥)
  in_gap_known g = gap_by_fill g fills_some.1

-- a row of a fit plan fills the slot in which it starts
pub row_fills : (test : SleepTest) (slots : ℕ) (w : Windows) (starts : List ℕ) → Fit w starts → (i : ℕ) → i < w.count
    → Fills test slots (plan_row w starts) (at starts i) (Job (i + 1))
row_fills test slots w starts fit i h =
    give (row_at_own w.count (at starts) i h fit.proper.apart)
    (λ here.
    let number : i + 1 ≡ plan_row w starts (at starts i) = omega (arith, here) in
    rw number (by_job (λ e. omega (arith, here, e))))
