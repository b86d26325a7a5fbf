-- What functions of reading and writing promise each other.
pub mod Repeats
pub mod Room
