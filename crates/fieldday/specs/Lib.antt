-- A day that is walked through: Held has the day held and how it is judged, Promise what each call promises. What functions promise each other
-- on the way is in `steps`.
pub mod Held
pub mod Promise
pub mod steps
