-- The cost table's rule of document 01. Span has the recursion and the plan read back, over any price; SpanPlan says what the theorem over
-- a span speaks of, Whole sets the rule up for a day, and SourceFormula has the source's formula.
pub mod Extreme
pub mod Span
pub mod SpanPlan
pub mod Whole
pub mod SourceFormula
