-- The words of document 01, as definitions. Start with Windows, Plan, Gap and Best.
pub mod Windows
pub mod Plan
pub mod Gap
pub mod Number
pub mod Numbering
pub mod Best
pub mod Span
pub mod Far
pub mod Mirrored
pub mod Moved
pub mod Joined
pub mod Changed
pub mod Stored
pub mod Count
