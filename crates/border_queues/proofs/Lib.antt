-- The lemmas of this crate.
pub mod Told
pub mod Interior
pub mod Around
pub mod SameEdges
pub mod InOrder
pub mod EdgesOpen
pub mod Bounded
pub mod SideTiles
pub mod BySides
pub mod Entries
