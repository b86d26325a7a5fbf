-- The laws of the definitions in specs/.
pub mod Decimal
pub mod Append
pub mod Lines
pub mod Unique
