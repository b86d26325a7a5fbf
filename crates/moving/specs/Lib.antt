-- The moving of a list, of document 01. What functions promise each other on the way is in `steps`.
pub mod Moving
pub mod steps
