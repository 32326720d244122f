-- What a state shows on a mask.
use Rattle.std.specs.Prelude.{◌≡◌, ℕ}
use Rattle.grid_core.specs.{declared.conn.Conn.Conn, declared.pixel.Pixel.Pixel, Raster.IsFilled, Raster.value_at}
use Rattle.grid_core.specs.{Path.domain_of, Reconstruction.IsReconstruction}
use Rattle.pgm_codec.specs.Graymap.{Graymap}
use Rattle.stroke_lattice.specs.State.{State}
use Rattle.marker_tiles.specs.Marker.{IsMarker}

-- the image is Vincent's reconstruction of the mask from the marker of the state, with the mask's maxval
pub record IsShown (conn : Conn) (mask : Graymap) (state : State) (image : Graymap) : Type 0 where
  pub width : image.raster.width ≡ mask.raster.width
  pub height : image.raster.height ≡ mask.raster.height
  pub filled : IsFilled image.raster
  pub maxval : image.maxval ≡ mask.maxval
  pub marker : Pixel → ℕ
  pub is_marker : IsMarker (domain_of mask.raster conn) (value_at mask.raster) state marker
  pub is_reconstruction : IsReconstruction (domain_of mask.raster conn) (value_at mask.raster) marker
      (value_at image.raster)
