-- What functions of the choice promise each other.
pub mod Compared
