-- What growing a whole image gives, and what growing inside a rectangle leaves. Public functions have these words in
-- their contracts.
use Rattle.std.specs.Prelude.{◌≡◌}
use Rattle.grid_core.specs.{declared.conn.Conn.Conn, declared.rect.Rect.Rect, Path.domain_of}
use Rattle.grid_core.specs.{Reconstruction.IsReconstruction, Rects.IsPatch, Rects.domain_in, Rects.part}
use Rattle.grid_core.specs.Raster.{Raster, IsBelow, IsFilled, value_at}

-- the image is the reconstruction of the mask from the marker: it has the mask's size and a value for each pixel, is
-- below the mask, and its values are those of the reconstruction
pub record IsRegrown (conn : Conn) (mask marker image : Raster) : Type 0 where
  pub filled : IsFilled image
  pub width : image.width ≡ mask.width
  pub height : image.height ≡ mask.height
  pub below : IsBelow image mask
  pub reconstruction : IsReconstruction (domain_of mask conn) (value_at mask) (value_at marker) (value_at image)

-- the new image is in the rectangle the reconstruction there: of the part of the mask in the rectangle, as an image by
-- itself, from what the image was; outside it is the old one
pub record IsRegrownIn (conn : Conn) (rect : Rect) (mask before after : Raster) : Type 0 where
  pub patch : IsPatch rect before after
  pub below : IsBelow after mask
  pub reconstruction :
      IsReconstruction (domain_in rect conn) (part rect (value_at mask)) (part rect (value_at before))
      (part rect (value_at after))
