-- The lemmas of this crate.
pub mod CutMasks
pub mod Rims
pub mod Sweeping
