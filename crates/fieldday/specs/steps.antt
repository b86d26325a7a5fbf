-- What functions promise each other on the way.
pub mod Came
pub mod NewRow
pub mod Replanned
pub mod Sound
