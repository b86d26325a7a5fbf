-- How an entry point answers: Answer has the codes, Refusal checks in order, Check the checks that entry points share, Planned what any
-- planner promises, Zero what becomes of its table. What functions promise each other on the way is in `steps`.
pub mod Answer
pub mod Refusal
pub mod Check
pub mod Zero
pub mod Planned
pub mod steps
