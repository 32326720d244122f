-- The lemmas of this crate.

pub mod BlockLevels
pub mod CellSpans
pub mod Enclosing
pub mod Existence
pub mod Keeping
pub mod Levels
pub mod ManyStrokes
pub mod Marking
pub mod Painted
pub mod Raising
pub mod Spans
