pub use Rattle.grid_core.specs.Neighbours
pub use Rattle.uuid.specs.Text
pub mod Code
pub mod Held
pub mod Seed
pub mod Spans
pub mod Tag
