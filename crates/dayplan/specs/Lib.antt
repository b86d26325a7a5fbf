-- What the program prints of what it reads.
pub mod Program
