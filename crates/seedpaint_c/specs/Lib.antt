-- The definitions of this crate, and those from below that its clauses cite.
pub use Rattle.grid_core.specs.Path
pub use Rattle.grid_core.specs.Raster
pub use Rattle.raster_sweeps.specs.Regrowth
pub use Rattle.derived_views.specs.Holes
pub use Rattle.derived_views.specs.HMaxima
pub use Rattle.derived_views.specs.Plateaus
pub use Rattle.derived_views.specs.Views
pub use Rattle.edit_lang.specs.Edit
pub use Rattle.spd_codec.specs.StateFile
pub use Rattle.run_faults.specs.RunError
pub use Rattle.view_session.specs.View
pub use Rattle.view_session.specs.Kept
pub mod Cells
pub mod Buffers
pub mod Merged
