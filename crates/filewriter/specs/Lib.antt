-- The writer of the day file of document 01: what it promises, and what reading gives of a file that was written.
pub mod Writer
pub mod Recovered
