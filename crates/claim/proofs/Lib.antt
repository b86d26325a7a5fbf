-- The laws of the definitions in specs/.
pub mod Claim
pub mod Rows
pub mod Paying
pub mod Unique
