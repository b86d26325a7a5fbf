-- What functions promise each other, here and above.
pub mod FirstOrEnd
pub mod Never
pub mod FirstIn
