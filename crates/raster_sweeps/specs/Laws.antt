-- Laws of the rectangles whose open pairs begin within bounds, as statements. Public functions have them as their
-- contracts.
use Rattle.std.specs.Prelude.{◌≡◌, ℕ}
use Rattle.grid_core.specs.{declared.bounds.Bounds.Bounds, declared.conn.Conn.Conn, declared.pixel.Pixel.Pixel}
use Rattle.grid_core.specs.{declared.rect.Rect.Rect, Reconstruction.IsReconstruction, Rects.domain_in, Rects.part}
use Rattle.grid_core.specs.Raster.{Raster, IsInside, value_at}
use Rattle.raster_sweeps.specs.OpenBounds.{OpenPairsBeginIn}

-- where the image is in the rectangle the reconstruction of the mask there, from whatever marker, no pair is open in
-- it, and so the open pairs begin within whatever bounds
abbrev pub ReconstructionBeginsNowhere : Type 0
ReconstructionBeginsNowhere =
    (conn : Conn) (rect : Rect) (mask image : Raster) (marker : Pixel → ℕ) (bounds : Bounds)
    → IsReconstruction (domain_in rect conn) (part rect (value_at mask)) marker (part rect (value_at image))
    → OpenPairsBeginIn conn rect mask image bounds

-- images and masks with equal values at each pixel of the rectangle have the same open pairs in it
abbrev pub SamePartKeepsBounds : Type 0
SamePartKeepsBounds =
    (conn : Conn) (rect : Rect) (mask other_mask image other_image : Raster) (bounds : Bounds)
    → ((p : Pixel) → IsInside rect.w rect.h p → part rect (value_at other_mask) p ≡ part rect (value_at mask) p)
    → ((p : Pixel) → IsInside rect.w rect.h p → part rect (value_at other_image) p ≡ part rect (value_at image) p)
    → OpenPairsBeginIn conn rect mask image bounds
    → OpenPairsBeginIn conn rect other_mask other_image bounds
