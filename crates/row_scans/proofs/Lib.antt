-- The lemmas of this crate.
pub mod Bags
pub mod Joining
pub mod Reaching
pub mod Replacing
pub mod RowPairs
pub mod RowQueues
pub mod RowRaises
pub mod Strips
