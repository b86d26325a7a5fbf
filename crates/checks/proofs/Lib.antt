-- The laws of the definitions in specs/.
pub mod Refusal
pub mod Check
pub mod Decided
pub mod TooMany
pub mod Zero
pub mod Planned
pub mod Unique
pub mod Refused
