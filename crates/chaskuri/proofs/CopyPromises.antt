-- What is promised of the rows of a list is promised of the list. Assumes nothing.
use Prim.Native.Nat.{ℕ, ◌<◌}
use mathlib.Core.Path.{◌≡◌, ap}
use mathlib.Core.List.{List}
use mathlib.Core.Logic.{⊎_elim}
use native.Mathlib.Omega.{arith}
use lib.ListN.{length}
use denote.Ref.{Bor}
use Rattle.checks.specs.declared.Answer.{Answer}
use Rattle.day.specs.declared.Day.{Day}
use Rattle.day.specs.declared.Job.{Job}
use Rattle.day.specs.Windows.{Windows, windows}
use Rattle.checks.specs.Answer.{done, no_plan}
use Rattle.checks.specs.Refusal.{◌then◌, Passed}
use Rattle.checks.specs.Check.{most_jobs, TimesCheck, ListCheck}
use Rattle.checks.proofs.Check.{times_is_check, list_is_check, list_avoids}
use Rattle.checks.proofs.Refusal.{refuses_is_check}
use Rattle.claim.specs.Claim.{ClaimCheck, PricePromise}
use Rattle.choice.specs.Choice.{ChoicePromise, PartFor, refused, of_own, of_server, PartPromise}
use Rattle.crowd.specs.declared.CrowdAnswer.{CrowdAnswer}
use Rattle.crowd.specs.Promise.{CrowdCheck, CrowdPromise}
use Rattle.filewriter.specs.Writer.{RoomCheck, WritePromise}
use Rattle.fieldday.specs.declared.FieldAnswer.{FieldAnswer}
use Rattle.fieldday.specs.Promise.{OpenPromise}
use Rattle.filewriter.specs.Writer.{RoomCheck, WritePromise}
use Rattle.ledger.specs.declared.LedgerAnswer.{LedgerAnswer}
use Rattle.ledger.specs.declared.SlotAnswer.{SlotAnswer}
use Rattle.ledger.specs.Promise.{LedgerPromise, SlotPromise}
use Rattle.planner.specs.Promise.{PlanCheck, PlanPromise}
use Rattle.rows.specs.Rows.{rows_of}
use Rattle.rows.specs.steps.InRows.{releases_in, deadlines_in, windows_in}
use Rattle.rows.specs.Columns.{releases, deadlines, windows_of}
use Rattle.rows.proofs.Copied.{list_promised, windows_promised}
use Rattle.checks.proofs.TooMany.{Alike, alike_stops, alike_first, counts_alike, times_alike, lists_alike}

-- of more than 40 rows a claimed plan is refused by the list
module _ (day : Day) (w v : Windows) (starts : List ℕ) (many : most_jobs < w.count) (other : most_jobs < v.count) where
  claims_alike : Alike (ClaimCheck (ListCheck day w) w starts) (ClaimCheck (ListCheck day v) v starts)
  claims_alike = alike_first (lists_alike w v many other day)

  claim_not_done : {Next : Answer → Type 0} (a : Answer) → (ClaimCheck (ListCheck day w) w starts then Next) a → a.code ≡ done → ⊥
  claim_not_done a p = list_is_check.not_done a (alike_stops (lists_alike w v many other day) a (alike_stops claims_alike a p))

module _ (jobs : List Job) where
  pub list_checked : (slots : ℕ) (a : Answer) → (TimesCheck slots (windows_in (rows_of 0 jobs)) then Passed) a → (TimesCheck slots (windows_of jobs) then Passed) a
  list_checked slots a = windows_promised jobs (λ w. (TimesCheck slots w then Passed) a) (λ w v h l. (alike_first (times_alike w v h l slots)).same a)

  pub list_crowded : (slots : ℕ) (answered : CrowdAnswer) → CrowdPromise slots (windows_in (rows_of 0 jobs)) answered → CrowdPromise slots (windows_of jobs) answered
  list_crowded slots answered =
      windows_promised jobs (λ w. CrowdPromise slots w answered)
      (λ w v h l p.
      let alike : Alike (TimesCheck slots w) (TimesCheck slots v) = times_alike w v h l slots in
      let checks : Alike (CrowdCheck (TimesCheck slots w) w) (CrowdCheck (TimesCheck slots v) v) = alike_first alike in
      record {
        answer = (alike_first checks).same answered.answer p.answer;
        shown = λ e. absurd (times_is_check.not_done answered.answer (alike_stops alike answered.answer (alike_stops checks answered.answer p.answer)) e);
        refused = p.refused;
      })

  pub list_priced : (day : Day) (starts : List ℕ) (a : Answer) → PricePromise day (windows_in (rows_of 0 jobs)) starts a → PricePromise day (windows_of jobs) starts a
  list_priced day starts a = windows_promised jobs (λ w. PricePromise day w starts a) (λ w v h l. (alike_first (claims_alike day w v starts h l)).same a)

  pub list_chosen : (day : Day) (own server : List ℕ) (a : Answer) → ChoicePromise day (windows_in (rows_of 0 jobs)) own server a → ChoicePromise day (windows_of jobs) own server a
  list_chosen day own server a = windows_promised jobs (λ w. ChoicePromise day w own server a) (λ w v h l. (alike_first (lists_alike w v h l day)).same a)

  pub list_handed : (day : Day) (own server part : Bor (List ℕ)) → PartPromise day (windows_in (rows_of 0 jobs)) own server part → PartPromise day (windows_of jobs) own server part
  list_handed day own server part =
      windows_promised jobs (λ w. PartPromise day w own server part)
      (λ w v h l p.
      let alike : _ = lists_alike w v h l day in
      record {
        answer = p.answer;
        chosen = (alike_first alike).same p.answer p.chosen;
        handed = empty w.count v.count p.answer (list_is_check.not_done p.answer (alike_stops alike p.answer p.chosen)) p.handed;
      })
    where
      -- under a refusal the part is the same for any number of rows
      empty : (n m : ℕ) (a : Answer) → (a.code ≡ done → ⊥) → PartFor n own server part a → PartFor m own server part a
      empty n m a h (refused r s) = refused r s
      empty n m a h (of_own e s) = absurd (h (ap (λ (b : Answer). b.code) e))
      empty n m a h (of_server e s) = absurd (h (ap (λ (b : Answer). b.code) e))

  pub list_ledgered : (day : Day) (starts : List ℕ) (answered : LedgerAnswer) → LedgerPromise day (windows_in (rows_of 0 jobs)) starts answered → LedgerPromise day (windows_of jobs) starts answered
  list_ledgered day starts answered =
      windows_promised jobs (λ w. LedgerPromise day w starts answered)
      (λ w v h l p.
      record {
        answer = (alike_first (claims_alike day w v starts h l)).same answered.answer p.answer;
        accepted = λ e. absurd (claim_not_done day w v starts h l answered.answer p.answer e);
        refused = p.refused;
      })

  pub list_shown : (day : Day) (starts : List ℕ) (asked : ℕ) (shown : SlotAnswer) → SlotPromise day (windows_in (rows_of 0 jobs)) starts asked shown → SlotPromise day (windows_of jobs) starts asked shown
  list_shown day starts asked shown =
      windows_promised jobs (λ w. SlotPromise day w starts asked shown)
      (λ w v h l p.
      record {
        answer = (alike_first (claims_alike day w v starts h l)).same shown.answer p.answer;
        slot = p.slot;
        fill = λ e. absurd (claim_not_done day w v starts h l shown.answer p.answer e);
        refused = p.refused;
      })

  pub list_planned : (day : Day) (starts table : List ℕ) (a : Answer) (starts_after table_after : List ℕ) → PlanPromise day (windows_in (rows_of 0 jobs)) starts table a starts_after table_after
      → PlanPromise day (windows_of jobs) starts table a starts_after table_after
  list_planned day starts table a starts_after table_after =
      windows_promised jobs (λ w. PlanPromise day w starts table a starts_after table_after)
      (λ w v h l p.
      let alike : Alike (ListCheck day w) (ListCheck day v) = lists_alike w v h l day in
      let checks : Alike (PlanCheck day w starts table) (PlanCheck day v starts table) = alike_first alike in
      let refused : ListCheck day w a = alike_stops alike a (alike_stops checks a p.answer) in
      let not_done : a.code ≡ done → ⊥ = list_is_check.not_done a refused in
      let not-no-plan : a.code ≡ no_plan → ⊥ = list_avoids (omega arith) a refused in
      record {
        answer = (alike_first checks).same a p.answer;
        planned = λ e. absurd (not_done e);
        unplanned = p.unplanned;
        cleared = ⊎_elim (λ e. absurd (not_done e)) (λ e. absurd (not-no-plan e));
        kept = p.kept;
      })

  pub list_opened : (day : Day) (starts : List ℕ) (r : FieldAnswer) → OpenPromise day (releases_in (rows_of 0 jobs)) (deadlines_in (rows_of 0 jobs)) starts r
      → OpenPromise day (releases jobs) (deadlines jobs) starts r
  list_opened day starts r =
      list_promised jobs (λ xs ys. OpenPromise day xs ys starts r)
      (λ xs ys xs' ys' h l p.
      record {
        answer = (alike_first (claims_alike day (windows xs ys) (windows xs' ys') starts h l)).same r.answer p.answer;
        opened = λ e. absurd (claim_not_done day (windows xs ys) (windows xs' ys') starts h l r.answer p.answer e);
        refused = p.refused;
      })

  pub list_written : (notes : ℕ) (day : Day) (file : List ℕ) (a : Answer) (file-after : List ℕ) → WritePromise notes day (releases_in (rows_of 0 jobs)) (deadlines_in (rows_of 0 jobs)) file a file-after
      → WritePromise notes day (releases jobs) (deadlines jobs) file a file-after
  list_written notes day file a file-after =
      list_promised jobs (λ xs ys. WritePromise notes day xs ys file a file-after)
      (λ xs ys xs' ys' h l p.
      let alike : _ = counts_alike (length xs) (length xs') h l in
      let rooms : Alike (RoomCheck notes (length xs) (length file)) (RoomCheck notes (length xs') (length file)) = alike_first alike in
      record {
        answer = (alike_first rooms).same a p.answer;
        accepted = λ e. absurd ((refuses_is_check (λ z. omega arith)).not_done a (alike_stops alike a (alike_stops rooms a p.answer)) e);
        refused = p.refused;
      })
