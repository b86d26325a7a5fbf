-- The joined list: its rows are those of the two, and where it is accepted they are. Assumes nothing.
use Prim.Native.Nat.{ℕ, ◌+◌, ◌≤◌, ◌<◌}
use mathlib.Core.Path.{◌≡◌, refl, sym, ◌∙◌, ap}
use mathlib.Core.List.{List, ◌++◌}
use native.Mathlib.Nat.{zero-add}
use native.Mathlib.Omega.{arith}
use lib.ListN.{length, length-append, get_or-append}
use lib.Seq.{get_or-append-add}
use Rattle.day.specs.Windows.{Windows, at}
use Rattle.day.specs.Joined.{beside}
use Rattle.checks.specs.Check.{Accepted}
use Rattle.day.proofs.Cases.{give}
use Rattle.day.proofs.Joined.{on_row, beside_first, beside_following}
use Rattle.demands.specs.Run.{Run, list}
use Rattle.demands.specs.SideBySide.{Joins, AppendedJoined, JoinedAccepted}
use Rattle.demands.proofs.BestPlan.{accepted_too}

-- an entry of a joined list is one of the first, or one of the second
pub append_beside : (xs ys : List ℕ) (n i : ℕ) → length xs ≡ n → at (xs ++ ys) i ≡ beside n (at xs) (at ys) i
append_beside xs ys n i long =
    on_row (λ i. at (xs ++ ys) i ≡ beside n (at xs) (at ys) i) n (i + 1) i (omega arith)
    (λ j l. get_or-append xs ys 0 j (omega arith) ∙ sym (beside_first n (at xs) (at ys) j l))
    (λ k l. ap (λ x. at (xs ++ ys) (x + k)) (sym long) ∙ get_or-append-add xs ys k 0 ∙ sym (beside_following n (at xs) (at ys) k))

pub appended_joined : AppendedJoined
appended_joined releases deadlines more-releases more-deadlines long =
    record {
      count = length-append releases more-releases;
      release = λ i l. sym (append_beside releases more-releases (length releases) i refl);
      deadline = λ i l. sym (append_beside deadlines more-deadlines (length releases) i long);
    }

module _ (g : ℕ) (first second whole : Run) (joins : Joins g first second whole) where
  -- the rows of the two, as rows of the whole

  first_row : (i : ℕ) → i < (list first).count
      → ((list whole).release i ≡ (list first).release i) × ((list whole).deadline i ≡ (list first).deadline i)
  first_row i l = (
    sym (joins.rows.release i (omega arith)) ∙ beside_first (list first).count (list first).release (list second).release i l,
    sym (joins.rows.deadline i (omega arith)) ∙ beside_first (list first).count (list first).deadline (list second).deadline i l,
  )

  second_row : (k : ℕ) → k < (list second).count
      → ((list whole).release ((list first).count + k) ≡ (list second).release k)
      × ((list whole).deadline ((list first).count + k) ≡ (list second).deadline k)
  second_row k l = (
    sym (joins.rows.release ((list first).count + k) (omega arith))
        ∙ beside_following (list first).count (list first).release (list second).release k,
    sym (joins.rows.deadline ((list first).count + k) (omega arith))
        ∙ beside_following (list first).count (list first).deadline (list second).deadline k,
  )

  -- a list whose rows are rows of the whole is accepted with it
  part_accepted : (v : Windows) (from : ℕ) → from + v.count ≤ (list whole).count
      → ((k : ℕ) → k < v.count → ((list whole).release (from + k) ≡ v.release k) × ((list whole).deadline (from + k) ≡ v.deadline k))
      → Accepted whole.day (list whole) → Accepted whole.day v
  part_accepted v from few same old =
      accepted_too old
      (record {
        count = omega (arith, old.rows.count);
        window = λ k l. omega (arith, (same k l).0, (same k l).1, old.rows.window (from + k) (omega arith));
        in_day = λ k l. omega (arith, (same k l).1, old.rows.in_day (from + k) (omega arith));
      })

  both_accepted : Accepted whole.day (list whole) → Accepted whole.day (list first) × Accepted whole.day (list second)
  both_accepted old = (
    part_accepted (list first) 0 (omega (arith, joins.rows.count)) (λ i l. rw zero-add (first_row i l)) old,
    part_accepted (list second) (list first).count (omega (arith, joins.rows.count)) second_row old,
  )

pub joined_accepted : JoinedAccepted
joined_accepted g first second whole joins old =
    give (both_accepted g first second whole joins old)
    (λ both. (rw (← joins.whole_day) both.0, rw (joins.day, ← joins.whole_day) both.1))
