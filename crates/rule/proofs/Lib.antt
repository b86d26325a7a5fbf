-- The laws of the definitions in specs/, then the theorem over any span: LowerBound (no plan is cheaper than the value) and Optimal (the
-- plan read back is the latest of the cheapest). SourceFormula shows the source's formula wrong. Whole is the theorem on a whole day.
pub mod Extreme
pub mod Value
pub mod Alike
pub mod Occupied
pub mod Cut
pub mod Swap
pub mod LowerBound
pub mod Late
pub mod Assemble
pub mod Optimal
pub mod Numbering
pub mod Rows
pub mod Ends
pub mod Whole
pub mod SourceFormula
