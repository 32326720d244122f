-- Shots: what a core shows of itself at a moment.
use Rattle.std.specs.Prelude.{◌≡◌, ℕ, Bool, IsTrue}
use Rattle.grid_core.specs.{declared.conn.Conn.Conn, declared.pixel.Pixel.Pixel, Raster.Raster, Raster.value_at}
use Rattle.grid_core.specs.{Path.Domain, Path.domain_of, Reconstruction.IsLawful, Reconstruction.IsReconstruction}
use Rattle.stroke_lattice.specs.State.{State}
use Rattle.marker_tiles.specs.Marker.{IsMarker}

-- a shot: mask, connectivity, strokes and image of a core, and whether it is marked as quiet
pub record Shot : Type 0 where
  pub mask : Raster
  pub conn : Conn
  pub state : State
  pub image : Raster
  pub quiet : Bool

-- where the images of the shot are defined
abbrev pub domain : Shot → Domain
domain shot = domain_of shot.mask shot.conn

-- the image has the size of the mask
pub record HasOneSize (mask image : Raster) : Type 0 where
  pub width : image.width ≡ mask.width
  pub height : image.height ≡ mask.height

-- the image is lawful for the marker of the shot's own strokes
abbrev pub HasLawfulImage : Shot → Type 0
HasLawfulImage shot =
    (marker : Pixel → ℕ) → IsMarker (domain shot) (value_at shot.mask) shot.state marker
    → IsLawful (domain shot) (value_at shot.mask) marker (value_at shot.image)

-- the image is the reconstruction of the mask from the marker of the shot's own strokes
abbrev pub HasReconstruction : Shot → Type 0
HasReconstruction shot =
    (marker : Pixel → ℕ) → IsMarker (domain shot) (value_at shot.mask) shot.state marker
    → IsReconstruction (domain shot) (value_at shot.mask) marker (value_at shot.image)

-- the image fits the mask and is lawful for the shot's own strokes, and where the shot is marked as quiet it is the
-- reconstruction
pub record IsSound (shot : Shot) : Type 0 where
  pub size : HasOneSize shot.mask shot.image
  pub lawful : HasLawfulImage shot
  pub quiet : IsTrue shot.quiet → HasReconstruction shot
