-- The slot ledger of document 01: sleep tests, what fills a slot, the five counts, and what the ledger and one slot's record promise. What
-- functions promise each other on the way is in `steps`.
pub mod Sleep
pub mod Fills
pub mod Count
pub mod Promise
pub mod steps
