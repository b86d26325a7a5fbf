-- Filling a table by the rule, over any problem, any layout and any width: the layout, what is lent and which problems that poses, and what
-- filling leaves. What functions promise each other on the way is in `steps`.
pub mod Places
pub mod Lent
pub mod Filled
pub mod Marks
pub mod steps
