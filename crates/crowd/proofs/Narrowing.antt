-- Where no span is crowded, a window of several slots can do without its first or without its last, and no span gets crowded. Assumes nothing.
use Prim.Native.Nat.{ℕ, suc, ◌+◌, ◌-◌, ◌≤◌, ◌<◌}
use mathlib.Core.Path.{◌≡◌, refl, sym}
use mathlib.Core.Bool.{cond}
use mathlib.Core.Logic.{◌⊎◌, inl, inr, ⊎_elim}
use native.Mathlib.Omega.{arith}
use lib.Dec.{eqb}
use borrow.Author.Tests.{eq-eqb, ne_eqb}
use Rattle.day.specs.Windows.{Windows}
use Rattle.day.specs.Count.{Count}
use Rattle.day.proofs.Cases.{give, on_le, on_eq}
use Rattle.day.proofs.Plan.{Narrower}
use Rattle.day.proofs.Count.{count_unique, count_at_most, count_more, count_some, count_but_one, count_divided}
use Rattle.checks.proofs.Refusal.{first_or_none}
use Rattle.crowd.specs.Crowded.{Inside}
use Rattle.crowd.proofs.Inside.{inside_known, inside_count}

-- no span of the day has more windows inside than slots; since that is so too of one without slots, no window is empty
pub record Calm (slots : ℕ) (w : Windows) : Type 0 where
  pub in_day : (i : ℕ) → i < w.count → w.deadline i ≤ slots
  pub room : (begin end c : ℕ) → begin ≤ end → end ≤ slots → Count (Inside w begin end) w.count c → c ≤ end - begin

module _ (slots : ℕ) (w : Windows) (calm : Calm slots w) where
  pub not_empty : (i : ℕ) → i < w.count → w.release i < w.deadline i
  not_empty i l =
      on_le (w.deadline i) (w.release i)
      (λ h.
      give (inside_count w (w.deadline i) (w.deadline i))
      (λ c.
      absurd
      (omega (
        arith,
        count_some i l (h, omega arith) c.1,
        calm.room (w.deadline i) (w.deadline i) c.0 (omega arith) (calm.in_day i l) c.1,
      ))))
      (λ h. h)

  -- where only row k's window is narrowed, only a span that it thereby comes to lie inside can get crowded
  calm_narrowed : (v : Windows) (k : ℕ) → Narrower v w → ((i : ℕ) → (i ≡ k → ⊥) → (w.release i ≡ v.release i) × (w.deadline i ≡ v.deadline i))
      → ((begin end c : ℕ) → begin ≤ end → end ≤ slots → Inside v begin end k → (Inside w begin end k → ⊥)
      → Count (Inside w begin end) w.count c
      → c < end - begin)
      → Calm slots v
  calm_narrowed v k narrower others left =
      record {
        in_day = λ i l. omega (arith, narrower.deadline i l, calm.in_day i (omega (arith, narrower.count)));
        room = λ begin end c l h p.
            let q : Count (Inside v begin end) w.count c = rw narrower.count p in
            let same : (i : ℕ) → (i ≡ k → ⊥) → Inside v begin end i → Inside w begin end i =
            λ i other z. give (others i other) (λ e. (omega (arith, z.0, e.0), omega (arith, z.1, e.1)))
            in
            give (inside_count w begin end)
            (λ d.
            give (calm.room begin end d.0 l h d.1)
            (λ before.
            ⊎_elim
            (λ was. omega (arith, count_at_most (λ i _ z. on_eq i k (λ e. rw e was) (λ e. same i e z)) q d.1))
            (λ was.
            ⊎_elim
            (λ now. omega (arith, left begin end d.0 l h now was d.1, count_but_one k (λ i _. same i) q d.1))
            (λ now. omega (arith, count_at_most (λ i _ z. on_eq i k (λ e. absurd (now (rw e at z))) (λ e. same i e z)) q d.1))
            (inside_known v begin end k))
            (inside_known w begin end k)));
      }

  -- two spans that are full, each without row k, would be crowded together: row k is inside neither, but inside the two together
  not_both_full : (k begin end c d : ℕ) → k < w.count → begin ≤ w.release k → w.deadline k ≤ end → end ≤ slots
      → suc (w.release k) < w.deadline k
      → Count (Inside w begin (w.deadline k - 1)) w.count c
      → Count (Inside w (suc (w.release k)) end) w.count d
      → w.deadline k - 1 - begin ≤ c
      → end - suc (w.release k) ≤ d
      → ⊥
  not_both_full k begin end c d l h m in-slots two p q full also-full =
      let later : (i : ℕ) → (suc (w.release k) ≤ w.release i) ⊎ (suc (w.release k) ≤ w.release i → ⊥) =
      λ i. on_le (suc (w.release k)) (w.release i) inl (λ z. inr (λ y. omega arith))
      in
      give (inside_count w (suc (w.release k)) (w.deadline k - 1))
      (λ both.
      give (inside_count w begin end)
      (λ either.
      give (count_divided {Q = λ i. suc (w.release k) ≤ w.release i} later p)
      (λ first.
      give (count_divided {Q = λ i. suc (w.release k) ≤ w.release i} later either.1)
      (λ whole.
      omega (
        arith,
        first.sum,
        whole.sum,
        calm.room (suc (w.release k)) (w.deadline k - 1) both.0 (omega arith) (omega arith) both.1,
        calm.room begin end either.0 (omega arith) in-slots either.1,
        count_at_most (λ i _ z. (z.1, z.0.1)) first.counted_with both.1,
        count_at_most (λ i _ z. ((omega (arith, z.0), z.1), z.0)) q whole.counted_with,
        count_more (λ i _ z. ((z.0.0, omega (arith, z.0.1)), z.1)) k l (λ z. omega (arith, z.0.1)) ((h, m), λ z. omega arith)
            first.counted_without whole.counted_without,
      )))))

-- one number of a row in the place of another
put : ℕ → ℕ → (ℕ → ℕ) → ℕ → ℕ
put k x f i = cond (eqb i k) x (f i)

put_here : (k x : ℕ) (f : ℕ → ℕ) → put k x f k ≡ x
unfolding put
put_here k x f = rw (eq-eqb k k refl)

put_else : (k x : ℕ) (f : ℕ → ℕ) (i : ℕ) → (i ≡ k → ⊥) → put k x f i ≡ f i
unfolding put
put_else k x f i other = rw (ne_eqb i k other)

-- windows that lie inside those of a list, with no span crowded
pub record Narrowed (slots : ℕ) (w v : Windows) : Type 0 where
  pub narrower : Narrower v w
  pub calm : Calm slots v

module _ (slots : ℕ) (w : Windows) (calm : Calm slots w) (k : ℕ) (l : k < w.count)
    (two : suc (w.release k) < w.deadline k) where
  abbrev raised : Windows
  raised = record { count = w.count; release = put k (suc (w.release k)) w.release; deadline = w.deadline }

  abbrev lowered : Windows
  lowered = record { count = w.count; release = w.release; deadline = put k (w.deadline k - 1) w.deadline }

  -- a span from just after k's release on is full: with row k inside it would be crowded
  record Full (end : ℕ) : Type 0 where
    to : w.deadline k ≤ end
    jobs : ℕ
    counted : Count (Inside w (suc (w.release k)) end) w.count jobs
    full : end - suc (w.release k) ≤ jobs

  full_known : (end : ℕ) → Full end ⊎ (Full end → ⊥)
  full_known end =
      give (inside_count w (suc (w.release k)) end)
      (λ c.
      on_le (w.deadline k) end
      (λ h.
      on_le (end - suc (w.release k)) c.0 (λ m. inl (record { to = h; jobs = c.0; counted = c.1; full = m }))
      (λ m. inr (λ z. omega (arith, z.full, count_unique z.counted c.1))))
      (λ h. inr (λ z. omega (arith, z.to))))

  raised_narrower : Narrower raised w
  raised_narrower =
      record {
        count = refl;
        release = λ i h. on_eq i k (λ e. rw e (omega (arith, put_here k (suc (w.release k)) w.release)))
            (λ e. omega (arith, put_else k (suc (w.release k)) w.release i e));
        deadline = λ i h. omega arith;
      }

  lowered_narrower : Narrower lowered w
  lowered_narrower =
      record {
        count = refl;
        release = λ i h. omega arith;
        deadline = λ i h. on_eq i k (λ e. rw e (omega (arith, put_here k (w.deadline k - 1) w.deadline)))
            (λ e. omega (arith, put_else k (w.deadline k - 1) w.deadline i e));
      }

  raised_calm : ((end : ℕ) → end < suc slots → Full end → ⊥) → Calm slots raised
  raised_calm none =
      calm_narrowed slots w calm raised k raised_narrower
      (λ i e. (sym (put_else k (suc (w.release k)) w.release i e), refl))
      (λ begin end c h m now was p.
      on_le begin (w.release k) (λ o. absurd (was (o, now.1)))
      (λ o.
      let here : begin ≡ suc (w.release k) = omega (arith, now.0, put_here k (suc (w.release k)) w.release) in
      on_le (end - begin) c
      (λ full. absurd (none end (omega arith) (record { to = now.1; jobs = c; counted = rw here at p; full = omega arith })))
      (λ room. room)))

  lowered_calm : (end : ℕ) → end < suc slots → Full end → Calm slots lowered
  lowered_calm end h f =
      calm_narrowed slots w calm lowered k lowered_narrower
      (λ i e. (refl, sym (put_else k (w.deadline k - 1) w.deadline i e)))
      (λ begin till c o m now was p.
      on_le (w.deadline k) till (λ z. absurd (was (now.0, z)))
      (λ z.
      let here : till ≡ w.deadline k - 1 = omega (arith, now.1, put_here k (w.deadline k - 1) w.deadline) in
      on_le (till - begin) c
      (λ full.
      absurd
      (not_both_full slots w calm k begin end c f.jobs l now.0 f.to (omega arith) two (rw here at p) f.counted
      (omega arith) f.full))
      (λ room. room)))

  -- so row k's window can do without its first slot or without its last
  pub one_less : (v : Windows) × Narrowed slots w v × (v.deadline k + w.release k < w.deadline k + v.release k)
  one_less =
      ⊎_elim
      (λ f. (
        lowered,
        record { narrower = lowered_narrower; calm = lowered_calm f.0 f.1.within f.1.fault },
        omega (arith, put_here k (w.deadline k - 1) w.deadline),
      ))
      (λ none. (
        raised,
        record { narrower = raised_narrower; calm = raised_calm none },
        omega (arith, put_here k (suc (w.release k)) w.release),
      ))
      (first_or_none full_known (suc slots))
