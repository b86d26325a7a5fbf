-- The laws of the day file and its reader.
pub mod Format
pub mod Accepted
pub mod RowsRead
pub mod Unique
