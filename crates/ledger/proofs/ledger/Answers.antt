-- `ledger::ledger` meets its contract. Assumes nothing.
use mathlib.Core.Path.{refl, sym}
use Rattle.claim.proofs.Rows.{Cut}
use Rattle.claim.proofs.Claim.{judged_slots, judged_cut}
use Rattle.ledger.proofs.SameRows.{plan_counted}
use Rattle.ledger.proofs.ledger.Goals as goal
use Rattle.ledger.proofs.ledger.Goals.{After-from-slots}

-- the day's slots are a part of the rows
cut : (c : After-from-slots) → Cut c.in_ok-rows.rows c.from-slots.result
cut c = judged_cut c.in_ok-rows.ensures _ c.from-slots.ensures

pub slice_bounds-rows-end : goal.slice_bounds-rows-end
slice_bounds-rows-end c = (cut (goal.at.slice_bounds-rows-end c).After-from-slots).room

pub slice_bounds-count-end : goal.slice_bounds-count-end
slice_bounds-count-end c = sym (cut (goal.at.slice_bounds-count-end c).After-from-slots).long

pub returns : goal.returns
returns c =
    let judged = c.in_ok-rows.ensures in
    record {
      answer = judged.answer;
      accepted = λ e. plan_counted (judged_slots judged) (judged.rows.accepted refl) (rw c.from-slots.ensures at c.count.ensures);
      refused = λ e. absurd (e refl);
    }
