-- What functions of the report promise each other.
pub mod Rows
