-- What follows from a call of read or write, when an input is whole, and when a text is lost.
pub mod Calls
pub mod Known
pub mod ReadStep
pub mod WriteStep
pub mod steps
