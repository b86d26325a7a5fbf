-- Claimed plans: how one is judged and priced, and which row stands in a slot. What functions promise each other on the way is in
-- `steps`.
pub mod Claim
pub mod Rows
pub mod steps
