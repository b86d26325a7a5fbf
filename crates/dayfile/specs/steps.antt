-- What functions of the day file promise each other.
pub mod Trailer
