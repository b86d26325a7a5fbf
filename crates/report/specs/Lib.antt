-- What planning a file and the program's text promise.
pub mod Outcome
pub mod File
pub mod steps
