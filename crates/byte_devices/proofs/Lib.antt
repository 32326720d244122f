pub mod Pieces
pub mod Shared
