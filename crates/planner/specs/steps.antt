-- What functions of the planner promise each other: the jobs in number order, and what is done with them.
pub mod Jobs
pub mod Finished
