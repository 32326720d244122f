-- The lemmas of this crate, file by file.
pub mod SharedStates
pub mod StoredCore
pub mod HandedOver
pub mod JoinedTiles
pub mod Rings
pub mod ToldEdges
pub mod Passing
pub mod QuietCores
pub mod Owning
