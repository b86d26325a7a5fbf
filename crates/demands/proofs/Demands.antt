-- All that is promised holds. Assumes nothing.
use Rattle.demands.specs.Demands.{Demands}
use Rattle.demands.proofs.BestPlan.{best_or_none, answers_admitted, seven_exactly}
use Rattle.demands.proofs.WhyNoPlan.{crowded_exactly, answers_why}
use Rattle.demands.proofs.DayFile.{reads_back}
use Rattle.demands.proofs.Gaps.{gaps_are_listed}
use Rattle.demands.proofs.Joined.{appended_joined, joined_accepted}
use Rattle.demands.proofs.SideBySide.{joins_side_by_side, joins_seven}
use Rattle.demands.proofs.Mirrored.{mirrored_accepted, mirrored_answer}
use Rattle.demands.proofs.Moving.{moved_accepted, moving_keeps}
use Rattle.demands.proofs.MovingEnds.{leaves_at_ends, moves_at_ends}
use Rattle.demands.proofs.Ledger.{ledger_balances, ledger_outer, row_shown}
use Rattle.demands.proofs.GapOfWake.{gap_shown, ledger_by_both, slot_by_both, cost_by_both}
use Rattle.demands.proofs.FieldDay.{opened_passes, after_passes, done_keeps_slot, advance_no_dearer}
use Rattle.demands.proofs.Added.{add_admitted, adds_best_or_none, adds_seven}
use Rattle.demands.proofs.Offered.{offer_no_dearer, offer_taken}
use Rattle.demands.proofs.AddedRun.{add_is_run}
use Rattle.demands.proofs.History.{done_at_most_once, done_once_by_end}
use Rattle.demands.proofs.RowsStay.{rows_stay}
use Rattle.demands.proofs.Text.{prints_decimals}
use Rattle.demands.proofs.Examples.{examples_hold, refused_plans_hold}
use Rattle.demands.proofs.ExamplesOfCrowds.{crowd_examples_hold}
use Rattle.demands.proofs.ExamplesOfClaims.{priced_examples_hold, chosen_examples_hold}
use Rattle.demands.proofs.ExamplesOfLedger.{ledger_examples_hold, slot_examples_hold}
use Rattle.demands.proofs.ExamplesOfMoving.{moved_examples_hold}
use Rattle.demands.proofs.ExamplesOfFiles.{read_examples_hold, written_examples_hold, reported_examples_hold, printed_examples_hold}
use Rattle.demands.proofs.OneOutcome.{one_outcome, one_result}
use Rattle.demands.proofs.Impostors.{no_impostor}

pub demands : Demands
demands =
    record {
      best_plan = best_or_none;
      checked = answers_admitted;
      seven = seven_exactly;
      gaps = gaps_are_listed;
      day_file = reads_back;
      appended = appended_joined;
      joined_accepted = joined_accepted;
      side_by_side = joins_side_by_side;
      joined_seven = joins_seven;
      mirrored_accepted = mirrored_accepted;
      mirrored = mirrored_answer;
      moved_accepted = moved_accepted;
      moving = moving_keeps;
      leaving = leaves_at_ends;
      at_ends = moves_at_ends;
      ledger = ledger_balances;
      outer_slots = ledger_outer;
      row_shown = row_shown;
      gap_shown = gap_shown;
      ledger_by_both = ledger_by_both;
      slot_by_both = slot_by_both;
      cost_by_both = cost_by_both;
      opened_passes = opened_passes;
      after_passes = after_passes;
      done_keeps_slot = done_keeps_slot;
      advance_no_dearer = advance_no_dearer;
      offer_no_dearer = offer_no_dearer;
      offer_taken = offer_taken;
      add_admitted = add_admitted;
      adds_best = adds_best_or_none;
      adds_seven = adds_seven;
      add_is_run = add_is_run;
      done_at_most_once = done_at_most_once;
      done_once_by_end = done_once_by_end;
      rows_stay = rows_stay;
      crowded_exactly = crowded_exactly;
      answers_why = answers_why;
      decimals = prints_decimals;
      examples = examples_hold;
      refused_plans = refused_plans_hold;
      crowd_examples = crowd_examples_hold;
      priced_examples = priced_examples_hold;
      chosen_examples = chosen_examples_hold;
      ledger_examples = ledger_examples_hold;
      slot_examples = slot_examples_hold;
      moved_examples = moved_examples_hold;
      read_examples = read_examples_hold;
      written_examples = written_examples_hold;
      reported_examples = reported_examples_hold;
      printed_examples = printed_examples_hold;
      one_outcome = one_outcome;
      one_result = one_result;
      no_impostor = no_impostor;
    }
