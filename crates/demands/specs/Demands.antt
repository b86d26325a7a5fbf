-- All that is promised, in one place. Each field is a statement of the file that it comes from.
use Rattle.demands.specs.BestPlan.{GivesBestOrNone, AnswersAdmitted, SevenIfNone}
use Rattle.demands.specs.WhyNoPlan.{CrowdedExactly, AnswersWhy}
use Rattle.demands.specs.DayFile.{ReadsBack}
use Rattle.demands.specs.Gaps.{GapsListed}
use Rattle.demands.specs.SideBySide.{AppendedJoined, JoinedAccepted, JoinsSideBySide, JoinsSeven}
use Rattle.demands.specs.Mirrored.{MirroredAccepted, MirroredAnswer}
use Rattle.demands.specs.Moving.{MovedAccepted, MovingKeeps, LeavesAtEnds, MovesAtEnds}
use Rattle.demands.specs.Ledger.{LedgerBalances, LedgerOuter, RowShown}
use Rattle.demands.specs.GapOfWake.{GapShown, LedgerByBoth, SlotByBoth, CostByBoth}
use Rattle.demands.specs.FieldDay.{
  OpenedPasses,
  AfterPasses,
  DoneKeepsSlot,
  AdvanceNoDearer,
  OfferNoDearer,
  OfferTaken,
  AddAdmitted,
  AddsBestOrNone,
  AddsSeven,
  AddIsRun,
}
use Rattle.demands.specs.History.{DoneAtMostOnce, DoneOnceByEnd, RowsStay}
use Rattle.demands.specs.Text.{PrintsDecimals}
use Rattle.demands.specs.Examples.{ExamplesHold, RefusedPlansHold}
use Rattle.demands.specs.ExamplesOfCrowds.{CrowdExamplesHold}
use Rattle.demands.specs.ExamplesOfClaims.{PricedExamplesHold, ChosenExamplesHold}
use Rattle.demands.specs.ExamplesOfLedger.{LedgerExamplesHold, SlotExamplesHold}
use Rattle.demands.specs.ExamplesOfMoving.{MovedExamplesHold}
use Rattle.demands.specs.ExamplesOfFiles.{ReadExamplesHold, WrittenExamplesHold, ReportedExamplesHold, PrintedExamplesHold}
use Rattle.demands.specs.OneOutcome.{OneOutcome, OneResult}
use Rattle.demands.specs.Impostors.{NoImpostor}

pub record Demands : Type 0 where
  -- demand 2
  pub best_plan : GivesBestOrNone
  pub checked : AnswersAdmitted
  pub seven : SevenIfNone
  pub gaps : GapsListed
  pub day_file : ReadsBack
  -- demand 3
  pub appended : AppendedJoined
  pub joined_accepted : JoinedAccepted
  pub side_by_side : JoinsSideBySide
  pub joined_seven : JoinsSeven
  pub mirrored_accepted : MirroredAccepted
  pub mirrored : MirroredAnswer
  -- moving a list
  pub moved_accepted : MovedAccepted
  pub moving : MovingKeeps
  pub leaving : LeavesAtEnds
  pub at_ends : MovesAtEnds
  -- the slot ledger
  pub ledger : LedgerBalances
  pub outer_slots : LedgerOuter
  pub row_shown : RowShown
  -- a gap of exactly L slots: document 02, T-03
  pub gap_shown : GapShown
  pub ledger_by_both : LedgerByBoth
  pub slot_by_both : SlotByBoth
  pub cost_by_both : CostByBoth
  -- a day in the field: document 02, T-01
  pub opened_passes : OpenedPasses
  pub after_passes : AfterPasses
  pub done_keeps_slot : DoneKeepsSlot
  pub advance_no_dearer : AdvanceNoDearer
  pub offer_no_dearer : OfferNoDearer
  pub offer_taken : OfferTaken
  pub add_admitted : AddAdmitted
  pub adds_best : AddsBestOrNone
  pub adds_seven : AddsSeven
  pub add_is_run : AddIsRun
  pub done_at_most_once : DoneAtMostOnce
  pub done_once_by_end : DoneOnceByEnd
  pub rows_stay : RowsStay
  -- why there is no plan: document 02, T-04
  pub crowded_exactly : CrowdedExactly
  pub answers_why : AnswersWhy
  -- the printed text
  pub decimals : PrintsDecimals
  -- examples with the documents' own numbers: P1 to P10, and a table for each entry point
  pub examples : ExamplesHold
  pub refused_plans : RefusedPlansHold
  pub crowd_examples : CrowdExamplesHold
  pub priced_examples : PricedExamplesHold
  pub chosen_examples : ChosenExamplesHold
  pub ledger_examples : LedgerExamplesHold
  pub slot_examples : SlotExamplesHold
  pub moved_examples : MovedExamplesHold
  pub read_examples : ReadExamplesHold
  pub written_examples : WrittenExamplesHold
  pub reported_examples : ReportedExamplesHold
  pub printed_examples : PrintedExamplesHold
  -- two outcomes are equal
  pub one_outcome : OneOutcome
  pub one_result : OneResult
  -- programs that the promises rule out
  pub no_impostor : NoImpostor
