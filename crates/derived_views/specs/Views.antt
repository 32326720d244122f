-- What each view of an image is, whichever values it shows.
use Rattle.std.specs.Prelude.{◌≡◌, ℕ}
use Rattle.grid_core.specs.{declared.pixel.Pixel.Pixel, Raster.value_at}
use Rattle.pgm_codec.specs.Graymap.{Graymap, IsGraymap}

-- an image of the same width and height, of this maxval, whose values show those of the first in this way
pub record IsView (image : Graymap) (highest : ℕ) (Shows : (Pixel → ℕ) → (Pixel → ℕ) → Type 0) (view : Graymap)
    : Type 0 where
  pub graymap : IsGraymap view
  pub width : view.raster.width ≡ image.raster.width
  pub height : view.raster.height ≡ image.raster.height
  pub maxval : view.maxval ≡ highest
  pub values : Shows (value_at image.raster) (value_at view.raster)
