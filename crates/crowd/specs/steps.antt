-- What functions of the search promise each other.
pub mod Ends
pub mod Search
