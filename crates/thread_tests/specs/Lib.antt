-- The definitions of this crate, and those from below that its clauses cite.
pub use Rattle.core_dispatch.specs.Books
pub use Rattle.core_dispatch.specs.Pens
pub use Rattle.core_dispatch.specs.Closing
pub use Rattle.studio.specs.Words
pub use Rattle.studio.specs.Keeping
pub use Rattle.live_board.specs.Seats
pub use Rattle.live_board.specs.Words as BoardWords
pub use Rattle.link_nodes.specs.Nodes
pub mod Company
