-- From rows to numbers and back: a proper plan of the rows is a plan of the whole day by number, at the same slots and as late.
-- Assumes nothing.
use Prim.Native.Nat.{ℕ, zero, suc, ◌+◌, ◌<◌}
use mathlib.Core.Path.{◌≡◌, refl, sym, ◌∙◌, ap}
use mathlib.Core.Logic.{⊎_elim}
use native.Mathlib.Omega.{arith}
use Rattle.day.specs.declared.Day.{Day}
use Rattle.day.specs.Windows.{Windows}
use Rattle.day.specs.Plan.{Plan, Proper, taken}
use Rattle.day.specs.Best.{AsLate, same, later}
use Rattle.day.proofs.Cases.{give, on, on_eq, bool_ext}
use Rattle.day.proofs.Plan.{taken_true, taken_intro}
use Rattle.day.proofs.Far.{from_one, from_one_zero, from_one_suc}
use Rattle.day.proofs.Number.{numbered_apart}
use Rattle.rule.specs.Span.{Problem}
use Rattle.rule.specs.Whole.{problem, ByNumber, Ready}
use Rattle.rule.specs.SpanPlan.{ByDeadline, In, SpanPlan, occupied, LateInSpan, same as same-by-number, later as later-by-number}
use Rattle.rule.proofs.Occupied.{occupied_true, occupied_intro}
use Rattle.rule.proofs.Numbering.{lower_number}

module _ (day : Day) (w : Windows) (row : ℕ → ℕ) (none : ℕ) (R : Ready day w row none) where
  abbrev jobs : Problem
  jobs = problem day w row none

  -- every job is released between the far points
  pub released_in_day : (k : ℕ) → k < w.count → In jobs 0 (day.slots + 2) k
  released_in_day k l =
      give (R.numbered.within k l) (λ i. omega (arith, R.window (row k) i, R.in_day (row k) i))

  pub by_deadline : ByDeadline jobs w.count
  by_deadline k l h b =
      on_eq k l (λ q. omega (arith, ap (λ i. w.deadline (row i)) q))
      (λ q. ⊎_elim (λ d. omega arith) (λ d. omega (arith, d.0)) (R.numbered.rising k l (omega arith) b))

  -- a proper plan of the rows is a plan by number
  pub rows_to_numbers : (p : Plan) (b : ℕ → ℕ) → ByNumber w.count row p b → Proper w p
      → SpanPlan jobs w.count 0 (day.slots + 2) b
  rows_to_numbers p b e P =
      record {
        fits = λ k l h.
            give (R.numbered.within k l)
            (λ i. omega (arith, e k l, P.inside (row k) i, R.in_day (row k) i));
        allowed = λ k l h. refl;
        apart = λ k l h u m v q.
            numbered_apart w.count w.deadline row R.numbered k l h u
            (P.apart (row k) (row l) (R.numbered.within k h) (R.numbered.within l u) (omega (arith, e k h, e l u)));
      }

  -- and back
  pub numbers_to_rows : (p : Plan) (b : ℕ → ℕ) → ByNumber w.count row p b
      → SpanPlan jobs w.count 0 (day.slots + 2) b → Proper w p
  numbers_to_rows p b e P =
      record {
        inside = λ i l.
            give (R.numbered.each i l)
            (λ n. rw (← n.2) (omega (arith, e n.0 n.1, P.fits n.0 n.1 (released_in_day n.0 n.1))));
        apart = λ i j l u q.
            give (R.numbered.each i l)
            (λ n.
            give (R.numbered.each j u)
            (λ m.
            sym n.2
            ∙ ap row (P.apart n.0 m.0 n.1 m.1 (released_in_day n.0 n.1) (released_in_day m.0 m.1)
            (omega (arith, e n.0 n.1, e m.0 m.1, ap p n.2, ap p m.2)))
            ∙ m.2));
      }

  -- both take the same slots
  pub same_taken : (p : Plan) (b : ℕ → ℕ) → ByNumber w.count row p b
      → (t : ℕ) → occupied jobs w.count 0 (day.slots + 2) b t ≡ from_one (taken w.count p) t
  same_taken p b e zero =
      on (occupied jobs w.count 0 (day.slots + 2) b 0)
      (λ h.
      give (occupied_true jobs w.count 0 (day.slots + 2) b 0 h)
      (λ o. absurd (omega (arith, e o.job o.below))))
      (λ h. h ∙ sym (from_one_zero (taken w.count p)))
  same_taken p b e (suc t) =
      bool_ext (occupied jobs w.count 0 (day.slots + 2) b (suc t)) (taken w.count p t)
      (λ h.
      give (occupied_true jobs w.count 0 (day.slots + 2) b (suc t) h)
      (λ o.
      taken_intro w.count p t (row o.job) (R.numbered.within o.job o.below)
      (omega (arith, e o.job o.below))))
      (λ h.
      give (taken_true w.count p t h)
      (λ o.
      give (R.numbered.each o.row o.below)
      (λ n.
      occupied_intro jobs w.count 0 (day.slots + 2) b (suc t) n.0 n.1 (released_in_day n.0 n.1)
      (omega (arith, e n.0 n.1, ap p n.2)))))
      ∙ sym (from_one_suc (taken w.count p) t)

  module _ (p q : Plan) (b c : ℕ → ℕ) (e : ByNumber w.count row p b) (f : ByNumber w.count row q c) where
    -- a row starts together in both plans where its number does
    same_start : (i : ℕ) (n : (k : ℕ) × (k < w.count) × (row k ≡ i)) → b n.0 ≡ c n.0 → p i ≡ q i
    same_start i n g = omega (arith, g, ap p n.2, ap q n.2, e n.0 n.1, f n.0 n.1)

    -- as late by number is as late by row
    pub late_by_row : LateInSpan jobs w.count 0 (day.slots + 2) b c → AsLate w p q
    late_by_row (same-by-number g) =
        same (λ i l. give (R.numbered.each i l) (λ n. same_start i n (g n.0 n.1 (released_in_day n.0 n.1))))
    late_by_row (later-by-number k l h m g) =
        later (row k) (R.numbered.within k l) (omega (arith, e k l, f k l))
        (λ j u o.
        give (R.numbered.each j u)
        (λ n.
        same_start j n
        (g n.0 (lower_number w.count w.deadline row R.numbered k n.0 l n.1 (rw n.2 o)) n.1
        (released_in_day n.0 n.1))))
