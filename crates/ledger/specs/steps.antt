-- What functions of the ledger promise each other.
pub mod Run
