-- The laws of the definitions in specs/.
pub mod Columns
pub mod Copied
pub mod PutOver
