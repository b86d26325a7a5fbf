-- The laws of places and levels, and why what the code leaves in a table is the rule's.
pub mod Places
pub mod Along
pub mod Marks
pub mod OneJob
pub mod Sums
pub mod Level
