-- Why a list has no proper plan: Crowded has the words, Promise what the entry point answers. What functions promise each other on the way is
-- in `steps`.
pub mod Crowded
pub mod Promise
pub mod steps
