-- The definitions of this crate, file by file, and those from below that its clauses cite.
pub use Rattle.grid_core.specs.Raster
pub use Rattle.grid_core.specs.Rects
pub use Rattle.grid_core.specs.Tiles
pub use Rattle.stroke_lattice.specs.State
pub use Rattle.marker_tiles.specs.Kept
pub use Rattle.tile_generations.specs.Generations
pub use Rattle.tile_generations.specs.Rims as TileRims
pub use Rattle.core_rules.specs.Work
pub use Rattle.core_rules.specs.Image
pub use Rattle.core_rules.specs.Invariant
pub use Rattle.core_rules.specs.Merge
pub use Rattle.core_rules.specs.Sweeps
pub use Rattle.core_rules.specs.Hints
pub use Rattle.core_rules.specs.Runs
pub use Rattle.tile_work.specs.Least
pub use Rattle.tile_work.specs.WorkTable
pub use Rattle.reset_core.specs.Answers
pub use Rattle.reset_core.specs.Parts
pub use Rattle.reset_core.specs.Settling
pub use Rattle.reset_core.specs.Sweeping
pub use Rattle.tiled_image.specs.Raising
pub use Rattle.tiled_image.specs.Settling as InBands
pub use Rattle.tiled_image.specs.Shown
pub use Rattle.tiled_image.specs.Sides
pub mod SharedStates
pub mod Stored
pub mod Patches
pub mod Passing
pub mod Handing
pub mod Joining
pub mod Owning
