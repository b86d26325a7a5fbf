pub mod CopyPromises
pub mod PutPromises
pub mod Unique
