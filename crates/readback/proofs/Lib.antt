-- The laws of the search for a split, and why what is read back is the rule's plan.
pub mod Search
pub mod StartsRead
