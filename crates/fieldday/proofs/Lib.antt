-- Laws of a day in the field: what its calls check, when it is sound, its places, a new row, the cut list, the two promises that speak of it, days
-- that calls give back, and that two outcomes are equal.
pub mod Checks
pub mod Sound
pub mod Places
pub mod NewRow
pub mod CutList
pub mod Added
pub mod Offered
pub mod Days
pub mod Unique
