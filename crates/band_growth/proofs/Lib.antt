-- The lemmas of this crate.
pub mod Halves
pub mod Joined
pub mod Seams
pub mod HalfLaws
pub mod Sharing
