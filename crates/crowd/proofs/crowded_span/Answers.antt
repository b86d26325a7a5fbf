-- `crowd::crowded_span` meets its contract. Assumes nothing.
use Prim.Native.Nat.{ℕ}
use mathlib.Core.Path.{refl}
use native.Mathlib.Omega.{arith}
use Rattle.std.proofs.Common.{Option, Some, None}
use Rattle.std.specs.Option.{ok_or}
use Rattle.day.specs.Windows.{Windows, windows}
use Rattle.checks.specs.declared.Answer.{Answer}
use Rattle.checks.specs.declared.outcome.Refusal.TheVariants.{PlanExists}
use Rattle.checks.specs.Check.{TimesCheck}
use Rattle.checks.proofs.Refusal.{passed_clear, clear_first, clear_next}
use Rattle.checks.proofs.Refused.{given_back, refused_not_done}
use Rattle.checks.proofs.Check.{times_is_check, clear_slots, clear_good_rows, good_rows_longer}
use Rattle.crowd.specs.declared.CrowdedSpan.{CrowdedSpan}
use Rattle.crowd.specs.Crowded.{Crowded}
use Rattle.crowd.specs.Promise.{answered_span, CrowdPromise}
use Rattle.crowd.specs.steps.Search.{ShortestIn}
use Rattle.crowd.proofs.Exactly.{not_crowded_plan}
use Rattle.crowd.proofs.Answered.{answer_refused, answer_plan_exists, answer_shown}
use Rattle.crowd.proofs.crowded_span.Goals as goal
use Rattle.crowd.proofs.crowded_span.Goals.{In_ok-check_times}

pub returns-in_err-check_times : goal.returns-in_err-check_times
returns-in_err-check_times c =
    rw (given_back c.from_residual.result c.from_residual.ensures.1)
    (answer_refused _ c.in_err-check_times.ensures (refused_not_done _))

-- past the check nothing was refused
clear : (c : In_ok-check_times) → (b : Answer) → TimesCheck c.args.slots (windows c.args.releases.now c.args.deadlines.now) b → ⊥
clear c = passed_clear times_is_check _ c.in_ok-check_times.ensures refl

pub invariant_of-rows : goal.invariant_of-rows
invariant_of-rows c =
    let times = clear c in
    record { good = good_rows_longer (clear_slots (clear_first times)).1 (clear_good_rows (clear_next times)) }

pub shortest-requires : goal.shortest-requires
shortest-requires c =
    omega (arith, c.from.ensures, (clear_slots (clear_first (clear (goal.at.shortest-requires c).In_ok-check_times))).1)

-- what the search found is the answer
found : {slots : ℕ} {w : Windows} → ((b : Answer) → TimesCheck slots w b → ⊥) → (shown : Option CrowdedSpan) → ShortestIn (Crowded slots w) shown
    → CrowdPromise slots w (answered_span (ok_or shown PlanExists))
found times (Some span) best = answer_shown times _ span refl best
found times None none =
    answer_plan_exists times _ refl (not_crowded_plan (clear_good_rows (clear_next times)) none)

pub returns : goal.returns
returns c =
    rw c.ok_or.ensures.value
    (found (clear (goal.at.returns c).In_ok-check_times) _ (rw c.from.ensures at c.shortest.ensures))
