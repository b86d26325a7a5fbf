-- Laws of what any planner promises: what the first starts hold, what a refusal and a plan without checks give, and that only the rows
-- matter. Assumes nothing.
use Prim.Native.Nat.{ℕ, ◌≤◌}
use mathlib.Core.Path.{◌≡◌, refl, sym}
use mathlib.Core.List.{List}
use mathlib.Core.Logic.{⊎_elim}
use lib.ListN.{length}
use Rattle.day.specs.declared.Day.{Day}
use Rattle.day.specs.Windows.{Windows, SameRows, at}
use Rattle.day.specs.Best.{Best}
use Rattle.day.proofs.Cases.{on_le}
use Rattle.day.proofs.Plan.{same_rows_refl, no_plan_cong}
use Rattle.day.proofs.Best.{best_cong}
use Rattle.checks.specs.declared.Answer.{Answer}
use Rattle.checks.specs.Answer.{done, no_plan}
use Rattle.checks.specs.Refusal.{◌then◌, goes_on}
use Rattle.checks.specs.Planned.{Verdict, costs, none_proper, BestIn, Planned}
use Rattle.checks.specs.steps.Never.{Never}
use Rattle.checks.proofs.Refusal.{then_next, then_as}

module _ {day : Day} {w : Windows} {starts : List ℕ} where
  -- a list whose first starts are the best plan
  pub best_in : {p : List ℕ} → Best day w (at p) → length p ≡ length starts → ((i : ℕ) → w.count ≤ i → at p i ≡ at starts i)
      → BestIn day w starts p
  best_in {p} best long rest =
      record {
        plan = at p;
        best = best;
        filled =
            record { long = long; inside = λ i l. refl; outside = λ i n. rest i (on_le w.count i (λ l. l) (λ l. absurd (n i l refl))) };
      }

  -- the list itself is then a best plan
  pub best_held : {p : List ℕ} → BestIn day w starts p → Best day w (at p)
  best_held {p} P = best_cong day w w P.plan (at p) (same_rows_refl w) (λ i l. sym (P.filled.inside i l)) P.best

pub never_clear : (b : Answer) → Never b → ⊥
never_clear b = elim [ ]

module _ (Check : Answer → Type 0) (need : ℕ) (day : Day) (w : Windows) (starts table : List ℕ) where
  -- a refusal touches nothing
  pub planned_refused : (a : Answer) → (Check then Verdict day w) a → (a.code ≡ done → ⊥) → (a.code ≡ no_plan → ⊥)
      → Planned Check need day w starts table a starts table
  planned_refused a answer d n = record {
    answer = answer;
    planned = λ e. absurd (d e);
    unplanned = λ e. refl;
    cleared = ⊎_elim (λ e. absurd (d e)) (λ e. absurd (n e));
    kept = λ e f. refl;
  }

  -- an outcome that other checks allow
  pub planned_by : {Other : Answer → Type 0} {a : Answer} {p t : List ℕ} → (Check then Verdict day w) a
      → Planned Other need day w starts table a p t → Planned Check need day w starts table a p t
  planned_by answer A = record { answer = answer; planned = A.planned; unplanned = A.unplanned; cleared = A.cleared; kept = A.kept }

  -- where the checks refuse nothing, a plan without checks is a plan
  pub planned_checked : (a : Answer) (p t : List ℕ) → ((b : Answer) → Check b → ⊥) → Planned Never need day w starts table a p t
      → Planned Check need day w starts table a p t
  planned_checked a p t clear A = planned_by (goes_on clear (then_next never_clear a A.answer)) A

-- only the rows matter
module _ {day : Day} {w v : Windows} (same : SameRows w v) where
  verdict_cong : (a : Answer) → Verdict day w a → Verdict day v a
  verdict_cong a (costs p best e) = costs p (best_cong day w v p p same (λ i l. refl) best) (rw same.count e)
  verdict_cong a (none_proper none e) = none_proper (no_plan_cong w v same none) e

  best_in_cong : {starts p : List ℕ} → BestIn day w starts p → BestIn day v starts p
  best_in_cong P =
      record {
        plan = P.plan;
        best = best_cong day w v P.plan P.plan same (λ i l. refl) P.best;
        filled = rw same.count P.filled;
      }

  pub planned_cong : {Check : Answer → Type 0} {need : ℕ} {starts table : List ℕ} {a : Answer} {p t : List ℕ}
      → Planned Check need day w starts table a p t → Planned Check need day v starts table a p t
  planned_cong {a = a} A =
      record {
        answer = then_as (λ b c. c) (λ b c. c) verdict_cong a A.answer;
        planned = λ e. best_in_cong (A.planned e);
        unplanned = A.unplanned;
        cleared = A.cleared;
        kept = A.kept;
      }
