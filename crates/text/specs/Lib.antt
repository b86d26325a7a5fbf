-- The printed text: numbers as digits, and the lines.
pub mod Decimal
pub mod Lines
pub mod steps
