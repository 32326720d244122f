-- What the public contracts cite, and the words of private ones.
pub use Rattle.grid_core.specs.Path
pub use Rattle.grid_core.specs.Raster
pub use Rattle.grid_core.specs.Reconstruction
pub mod Generations
pub mod Rims
pub mod Jobs
pub mod CutMasks
pub mod Bases
