-- What the public contracts cite, and the words of private ones.
pub use Rattle.grid_core.specs.Path
pub use Rattle.grid_core.specs.Raster
pub use Rattle.grid_core.specs.Rects
pub use Rattle.grid_core.specs.Tiles
pub mod Waiting
pub mod TileWork
pub mod OpenEdges
pub mod Around
pub mod Laws
pub mod Borders
pub mod Sides
pub mod Runs
