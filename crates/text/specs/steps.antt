-- What functions of the text promise each other.
pub mod Append
