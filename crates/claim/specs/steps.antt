-- What functions of claimed plans promise each other.
pub mod Starts
