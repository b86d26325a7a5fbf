-- The laws of the table's need, of the jobs in number order and of the planner's promise.
pub mod Table
pub mod Jobs
pub mod Promise
pub mod Unique
pub mod Finished
pub mod Accepted
