-- The lemmas of this crate.
pub mod Common
pub mod Pixels
pub mod Reach
pub mod Images
pub mod Around
pub mod Cells
pub mod GivenBack
pub mod Rectangles
pub mod Spans
pub mod Tilings
pub mod TilesBeside
pub mod Sums
pub mod Growing
pub mod Owed
pub mod Headroom
pub mod ImageRows
