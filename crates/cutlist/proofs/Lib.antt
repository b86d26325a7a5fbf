-- Laws of a cut window, of plans for the cut list, and that its columns are determined.
pub mod CutWindow
pub mod CutPlan
pub mod Unique
