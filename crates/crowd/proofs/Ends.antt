-- Laws of the jobs of a span by their deadlines: the next end adds those that end there. Assumes nothing.
use Prim.Native.Nat.{ℕ, suc, ◌+◌, ◌≤◌, ◌<◌}
use mathlib.Core.Path.{◌≡◌, sym, ◌∙◌}
use mathlib.Core.List.{List}
use mathlib.Core.Logic.{inl, inr}
use native.Mathlib.Omega.{arith}
use native.Mathlib.Numerals.{add-one}
use lib.ListN.{set, length-set, replicate, length-replicate, get_or-replicate}
use lib.Seq.{get_or-set_same, get_or-set_other}
use Rattle.day.specs.Windows.{Windows, at}
use Rattle.day.specs.Count.{Count, counted_none, counted, passed_over}
use Rattle.day.proofs.Cases.{give, on_eq}
use Rattle.day.proofs.Count.{count_parted}
use Rattle.checks.specs.Check.{most_slots}
use Rattle.crowd.specs.Crowded.{Inside}
use Rattle.crowd.specs.steps.Ends.{EndsAt, Ends}
use Rattle.crowd.proofs.Inside.{inside_count}

module _ {w : Windows} {begin : ℕ} where
  pub ends_none : Ends w begin 0 (replicate (most_slots + 1) 0)
  ends_none =
      record {
        long = length-replicate {A = ℕ} (most_slots + 1) 0;
        each = λ end l. rw (get_or-replicate {A = ℕ} (most_slots + 1) end 0 0 (omega arith)) counted_none;
      }

  module _ {row : ℕ} {ends : List ℕ} (e : Ends w begin row ends) where
    -- a row that is released at begin or later
    pub ends_counted : (end : ℕ) → end ≡ w.deadline row → begin ≤ w.release row → end ≤ most_slots
        → Ends w begin (row + 1) (set ends end (at ends end + 1))
    ends_counted end here h l =
        rw (add-one, add-one)
        record {
          long = length-set ends end (suc (at ends end)) ∙ e.long;
          each = λ t m.
              on_eq t end
              (λ q.
              rw (q, get_or-set_same ends end (suc (at ends end)) 0 (omega (arith, e.long))) (counted (e.each end l) (h, sym here)))
              (λ q.
              rw (get_or-set_other ends end t (suc (at ends end)) 0 q) (passed_over (e.each t m) (λ z. q (sym z.1 ∙ sym here))));
        }

    -- one that is released earlier
    pub ends_passed : w.release row < begin → Ends w begin (row + 1) ends
    ends_passed h =
        rw add-one record { long = e.long; each = λ t m. passed_over (e.each t m) (λ z. omega (arith, z.0)) }

  -- those inside with one slot more
  pub inside_next : {end jobs more : ℕ} → Count (Inside w begin end) w.count jobs → Count (EndsAt w begin (end + 1)) w.count more
      → Count (Inside w begin (end + 1)) w.count (jobs + more)
  inside_next {end} {jobs} {more} p q =
      give (inside_count w begin (end + 1))
      (λ c.
      rw
      (count_parted
      (λ i l.
      record {
        first = λ z. (z.0, omega (arith, z.1));
        second = λ z. (z.0, omega (arith, z.1));
        either = λ z. on_eq (w.deadline i) (end + 1) (λ e. inr (z.0, e)) (λ e. inl (z.0, omega (arith, z.1)));
        apart = λ y z. omega (arith, y.1, z.1);
      })
      p q c.1)
      c.1)
