-- The definitions of this crate, file by file, and those from below that its clauses cite.
pub use Rattle.grid_core.specs.Bounds
pub use Rattle.grid_core.specs.Raster
pub use Rattle.grid_core.specs.Rects
pub use Rattle.grid_core.specs.Tiles
pub use Rattle.border_queues.specs.Around
pub use Rattle.border_queues.specs.OpenEdges
pub use Rattle.border_queues.specs.Sides as AlongSides
pub use Rattle.border_queues.specs.TileWork
pub use Rattle.tile_generations.specs.CutMasks
pub use Rattle.tile_generations.specs.Rims as TileRims
pub use Rattle.core_rules.specs.Image
pub use Rattle.tile_work.specs.TileSet
pub use Rattle.tile_work.specs.WorkTable
pub use Rattle.core_rules.specs.Runs
pub use Rattle.reset_core.specs.Bounding
pub use Rattle.reset_core.specs.MergeSteps
pub use Rattle.reset_core.specs.Parts
pub use Rattle.reset_core.specs.Replica
pub mod Shown
pub mod TileParts
pub mod TiledImage
pub mod SharedCopies
pub mod Rims
pub mod OwnRims
pub mod Sides
pub mod RaisedTiles
pub mod Raising
pub mod AllKept
pub mod Ring
pub mod Beyond
pub mod Lending
pub mod Settling
