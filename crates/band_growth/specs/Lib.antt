-- What the public contracts cite, and the words of private ones.
pub use Rattle.grid_core.specs.Path
pub use Rattle.grid_core.specs.Raster
pub use Rattle.grid_core.specs.Reconstruction
pub use Rattle.grid_core.specs.Rects
pub use Rattle.raster_sweeps.specs.Regrowth
pub mod Bands
pub mod Laws
pub mod Steps
pub mod Sharing
