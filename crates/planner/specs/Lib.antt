-- What the planner promises, and the need of its table. What its functions promise each other on the way is in `steps`.
pub mod Table
pub mod Promise
pub mod steps
