-- Images on the way to the reconstruction, and the parts of an image that are images by themselves. What they are
-- stands in `specs/Reconstruction.antt`, `Raster.antt` and `Rects.antt` of `grid_core`.
use Rattle.std.specs.Prelude.{◌≡◌, max}
use Rattle.grid_core.specs.{declared.pixel.Pixel.Pixel, declared.rect.Rect.Rect, Rects.IsInRect, Rects.in_image}
use Rattle.grid_core.specs.Raster.{Raster, IsInside, value_at}
pub use Rattle.grid_core.specs.Raster.{IsOfSize}
pub use Rattle.grid_core.specs.Rects.{IsPart, IsAtMostPart}
pub use Rattle.grid_core.specs.Reconstruction.{IsOpen, IsSupported}

-- the new image is the greater of the old one and the piece in the rectangle, and the old one outside it
pub record IsJoinedWith (rect : Rect) (piece old new : Raster) : Type 0 where
  pub size : IsOfSize old new
  pub within : (p : Pixel) → IsInside rect.w rect.h p
      → value_at new (in_image rect p) ≡ max (value_at old (in_image rect p)) (value_at piece p)
  pub beyond : (p : Pixel) → IsInside old.width old.height p → (IsInRect rect p → ⊥) → value_at new p ≡ value_at old p
