-- What functions of moving promise each other.
pub mod Movable
