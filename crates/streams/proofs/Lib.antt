-- The laws of calls, of reading and of writing.
pub mod Known
pub mod Repeats
pub mod Unique
