-- The laws of the writer, and that reading undoes writing.
pub mod Format
pub mod Stands
pub mod Accepted
pub mod Recovered
pub mod Unique
