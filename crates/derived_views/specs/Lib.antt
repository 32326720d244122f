-- What the public contracts cite, and the words of private ones.
pub use Rattle.grid_core.specs.Neighbours
pub use Rattle.grid_core.specs.Path
pub use Rattle.grid_core.specs.Raster
pub use Rattle.grid_core.specs.Reconstruction
pub use Rattle.pgm_codec.specs.Graymap
pub use Rattle.stroke_lattice.specs.State
pub use Rattle.marker_tiles.specs.Marker
pub mod Shown
pub mod Holes
pub mod HMaxima
pub mod Plateaus
pub mod Views
pub mod Laws
pub mod Rasters
