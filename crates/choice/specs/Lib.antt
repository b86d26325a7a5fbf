-- The choice between two claimed plans. What functions promise each other on the way is in `steps`.
pub mod Choice
pub mod steps
