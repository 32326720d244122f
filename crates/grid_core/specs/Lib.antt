-- What the public contracts cite, and the words of private ones.
pub mod Raster
pub mod Neighbours
pub mod Rows
pub mod Path
pub mod Reconstruction
pub mod Owed
pub mod Rects
pub mod Bounds
pub mod Tiles
pub mod TileLaws
pub mod Laws
pub mod RasterLaws
pub mod Code
pub mod Lending
pub mod Stored
