-- What functions of the read_back promise each other.
pub mod Highest
pub mod SplitFound
