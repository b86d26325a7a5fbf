-- `ledger::slot` meets its contract. Assumes nothing.
use mathlib.Core.Path.{refl, sym}
use native.Mathlib.Omega.{arith}
use Rattle.checks.proofs.Refusal.{past}
use Rattle.checks.proofs.Check.{list_is_check}
use Rattle.claim.proofs.Rows.{Cut}
use Rattle.claim.proofs.Claim.{judged_next, judged_slots, judged_cut}
use Rattle.ledger.proofs.SameRows.{plan_filled}
use Rattle.ledger.proofs.slot.Goals as goal
use Rattle.ledger.proofs.slot.Goals.{After-from-slots}

-- the day's slots are a part of the rows
cut : (c : After-from-slots) → Cut c.in_ok-rows.rows c.from-slots.result
cut c = judged_cut c.in_ok-rows.ensures _ c.from-slots.ensures

pub slice_bounds-rows-end : goal.slice_bounds-rows-end
slice_bounds-rows-end c = (cut (goal.at.slice_bounds-rows-end c).After-from-slots).room

pub slice_bounds-fill_at-end : goal.slice_bounds-fill_at-end
slice_bounds-fill_at-end c = sym (cut (goal.at.slice_bounds-fill_at-end c).After-from-slots).long

pub fill_at-fill-requires : goal.fill_at-fill-requires
fill_at-fill-requires c =
    let part = cut (goal.at.fill_at-fill-requires c).After-from-slots in (
      omega (arith, part.long, part.small),
      omega (arith, part.long, c.from-slots.ensures, c.from.ensures),
    )

pub returns : goal.returns
returns c =
    let judged = c.in_ok-rows.ensures in
    record {
      answer = judged_next list_is_check judged _ (past (λ h. omega arith) refl);
      slot = λ e. refl;
      fill = λ e.
          plan_filled (judged_slots judged) (judged.rows.accepted refl) (omega arith)
          (rw (c.from-slots.ensures, c.from.ensures) at c.fill_at-fill.ensures);
      refused = λ e. absurd (e refl);
    }
