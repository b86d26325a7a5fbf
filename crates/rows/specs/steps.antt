-- What functions over rows by value promise each other.
pub mod InRows
