-- What the hour leaves of a list: Cut has the words done and cut list, CutRows what its windows are as two columns.
pub mod Cut
pub mod CutRows
