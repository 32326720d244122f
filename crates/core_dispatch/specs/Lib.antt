-- The definitions of this crate, and those from below that its clauses cite.
pub use Rattle.stroke_lattice.specs.State
pub use Rattle.tile_generations.specs.Jobs as Tasks
pub use Rattle.core_rules.specs.Work
pub use Rattle.core_rules.specs.Merge
pub use Rattle.core_rules.specs.Sweeps
pub use Rattle.core_rules.specs.Hints
pub use Rattle.core_rules.specs.Events
pub use Rattle.core_rules.specs.Runs
pub use Rattle.steal_pool.specs.Views
pub use Rattle.tiled_image.specs.Settling
pub mod Rings
pub mod Growing
pub mod Books
pub mod Pens
pub mod Taking
pub mod Resting
pub mod Handing
pub mod Dispatching
pub mod Genuine
pub mod Reports
pub mod Jobs
pub mod Turns
pub mod Closing
pub mod Codes
