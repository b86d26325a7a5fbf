-- A list of job records as columns of numbers, and its rows by value.
pub mod Columns
pub mod Rows
pub mod steps
