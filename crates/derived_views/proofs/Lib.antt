-- The lemmas of this crate.
pub mod Paths
pub mod Filling
pub mod Climbing
pub mod Rasters
pub mod Borders
pub mod Growing
pub mod Views
pub mod Grown
