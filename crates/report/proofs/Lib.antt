-- The laws of planning a file.
pub mod File
pub mod Unique
