-- The flood of what is reconstructed, as the private functions carry it from one level to the next.
use Rattle.std.specs.Prelude.{ℕ, ◌*◌, List}
use Rattle.grid_core.specs.{declared.pixel.Pixel.Pixel, Path.domain_of, Raster.Raster, Raster.IsBelow}
use Rattle.raster_sweeps.specs.declared.thresholds.Reconstruction.{Reconstruction}
use Rattle.raster_sweeps.specs.Flood.{IsImageOn, IsLevelDone, IsSeeding}

-- how many cells there are in which seeds may stand
abbrev pub seeds_of : Reconstruction → ℕ
seeds_of source = source.mask.now.width * source.mask.now.height

-- the marker is below the mask, the image has a value for each pixel, and all levels up to this one are flooded
pub record IsFlooded (source : Reconstruction) (level : ℕ) (image : Raster) : Type 0 where
  pub below : IsBelow source.marker.now source.mask.now
  pub sized : IsImageOn (domain_of source.mask.now source.conn) image
  pub done : IsLevelDone source.conn source.mask.now source.marker.now level image

-- the marker is below the mask, the image has a value for each pixel, and a level is being flooded; the seeds in the
-- first `seen` cells are marked
pub record Floods (source : Reconstruction) (level seen : ℕ) (image : Raster) (waiting : List Pixel) : Type 0 where
  pub below : IsBelow source.marker.now source.mask.now
  pub sized : IsImageOn (domain_of source.mask.now source.conn) image
  pub flooding : IsSeeding source.conn source.mask.now source.marker.now level seen image waiting
