-- The definitions of this crate, and those from below that its clauses cite.
pub use Rattle.view_session.specs.Kept
pub use Rattle.view_session.specs.Answering
pub use Rattle.link_nodes.specs.Links
pub use Rattle.studio.specs.Opening
pub use Rattle.derived_views.specs.Shown
pub mod Given
pub mod Working
pub mod Shared
pub use Rattle.view_session.specs.Serving
pub use Rattle.view_session.specs.Store
pub mod Network
pub mod Stored
