-- The laws of moving a list.
pub mod Signs
pub mod Moving
pub mod Unique
pub mod Ends
