-- The laws of crowded spans, and the theorem: there is one exactly if the list has no proper plan.
pub mod Inside
pub mod Narrowing
pub mod CalmPlan
pub mod Ends
pub mod FromBegin
pub mod Search
pub mod Exactly
pub mod Answered
pub mod Unique
