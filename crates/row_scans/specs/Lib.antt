-- What the contracts cite.
pub use Rattle.grid_core.specs.Neighbours
pub mod Rows
pub mod RowRaises
pub mod Waiting
