-- The definitions of this crate, file by file, and those from below that its clauses cite.
pub use Rattle.stroke_core.specs.Tag
pub mod RunError
