-- The laws of the choice.
pub mod Choice
pub mod Unique
