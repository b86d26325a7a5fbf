-- The laws of the definitions in specs/, and the theorems of the ledger.
pub mod InGap
pub mod Fills
pub mod CountedAs
pub mod Walked
pub mod Run
pub mod SameRows
pub mod Cost
pub mod Outer
pub mod Unique
