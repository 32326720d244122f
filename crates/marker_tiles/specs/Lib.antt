-- What the public contracts cite, and the words of private ones.
pub use Rattle.grid_core.specs.Path
pub use Rattle.grid_core.specs.Raster
pub use Rattle.grid_core.specs.Rects
pub use Rattle.grid_core.specs.Tiles
pub use Rattle.stroke_core.specs.Seed
pub use Rattle.stroke_lattice.specs.State
pub use Rattle.stroke_lattice.specs.Change
pub mod Marker
pub mod Laws
pub mod Kept
pub mod Code
pub mod InOrder
pub mod Painting
pub mod UnderTags
pub mod Blocks
