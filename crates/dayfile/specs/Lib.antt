-- The day file of document 01: how numbers stand in bytes, what stands where, and what the reader promises. What functions promise each
-- other on the way is in `steps`.
pub mod Bytes
pub mod Format
pub mod Reader
pub mod steps
