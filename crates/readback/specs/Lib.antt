-- Reading the plan back from a filled table: what is asked of the table, and what is read. What functions promise each other on the way is
-- in `steps`.
pub mod StartsRead
pub mod steps
