-- What document 01 demands, and document 02's T-01, T-03 and T-04. Read Run first: what goes into the planner and what comes out. Demands lists all
-- statements; each says what holds of every run that keeps a promise, and no program is mentioned. FieldDay says what each call on a day in the
-- field does, History what holds over all calls; GapOfWake says which gaps are asleep, and what T-03 changed in that; WhyNoPlan says
-- which span is shown where there is no plan. The proofs stand in proofs/,
-- most under the same names; those about a joined list are in Joined, about the ends of a shift in MovingEnds, about adding and offering in the
-- field in Added, AddedRun and Offered, about a row's window there in RowsStay.
pub mod Run
pub mod BestPlan
pub mod WhyNoPlan
pub mod DayFile
pub mod Gaps
pub mod SideBySide
pub mod Mirrored
pub mod Moving
pub mod Ledger
pub mod GapOfWake
pub mod FieldDay
pub mod History
pub mod Text
pub mod ExamplesTable
pub mod Examples
pub mod ExamplesOfCrowds
pub mod ExamplesOfClaims
pub mod ExamplesOfLedger
pub mod ExamplesOfMoving
pub mod ExamplesOfFiles
pub mod OneOutcome
pub mod Impostors
pub mod Demands
