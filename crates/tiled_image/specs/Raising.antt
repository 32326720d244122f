-- Rims that are raised to those of pieces, which are nowhere below the image but on the rims of their tiles.
use Rattle.std.specs.Prelude.{◌≡◌, ◌<◌, ◌≤◌, ℕ, List, max}
use Rattle.grid_core.specs.{declared.bounds.Bounds.Bounds, declared.pixel.Pixel.Pixel, declared.rect.Rect.Rect}
use Rattle.grid_core.specs.{Bounds.IsInBounds, Bounds.LieIn, Bounds.bounds_of, Rects.IsInRect, Rects.IsAtMostPart}
use Rattle.grid_core.specs.{Raster.Raster, Raster.IsFilled, Raster.IsInside, Raster.index_of, Raster.value_at}
use Rattle.grid_core.specs.{Rects.in_image, Tiles.Tiles}
use Rattle.tiled_image.specs.declared.rims.Edge.{Edge}
use Rattle.tiled_image.specs.{RaisedTiles.IsInner, Rims.rim_value, Rims.strip_at, Rims.strip_of, Shown.cell_in}
use Rattle.tiled_image.specs.Shown.{place_in, value_in}

-- the greater of the image's value at a pixel and of the other one
abbrev pub greater_of : Raster → (Pixel → ℕ) → Pixel → ℕ
greater_of image value p = max (value_at image p) (value p)

-- the piece is the image in the rectangle, but on the rim it is at most that
pub record IsBelowRim (rect : Rect) (image piece : Raster) : Type 0 where
  pub at_most : IsAtMostPart rect image piece
  pub inner : (p : Pixel) → IsInRect rect p → IsInner rect p → value_at image p ≡ value_in rect piece p

-- but on the rim of the rectangle the image is nowhere above these values
abbrev pub IsBelowInside : Rect → Raster → (Pixel → ℕ) → Type 0
IsBelowInside rect image value = (p : Pixel) → IsInRect rect p → IsInner rect p → value_at image p ≤ value p

-- the bounds lie in the rectangle, and have each pixel of its rim where the image is above these values
pub record AreBoundsOver (rect : Rect) (image : Raster) (value : Pixel → ℕ) (bounds : Bounds) : Type 0 where
  pub lie : LieIn bounds rect
  pub above : (edge : Edge) (p : Pixel) → IsInRect (strip_at edge rect) p → value p < value_at image p
      → IsInBounds bounds p

-- a part of the rectangle's size raises the image to what the piece raises it to
pub record RaisesAs (rect : Rect) (image piece part : Raster) : Type 0 where
  pub width : part.width ≡ rect.w
  pub height : part.height ≡ rect.h
  pub filled : IsFilled part
  pub values : (p : Pixel) → IsInside rect.w rect.h p
      → max (value_at image (in_image rect p)) (value_at part p)
      ≡ max (value_at image (in_image rect p)) (value_at piece p)

-- ---- strip by strip

-- the greater of the rim's value at a pixel of a strip and of that of a copy of a rim
abbrev pub raised_value : Tiles → List ℕ → ℕ → Edge → List ℕ → Pixel → ℕ
raised_value tiling rims tile edge side p =
    max (rim_value tiling rims tile edge p) (cell_in (strip_of tiling tile edge) side p)

-- the greater of the cell that shows a pixel and of a value for it
abbrev pub raised_cell : (Pixel → ℕ) → Rect → List ℕ → Pixel → ℕ
raised_cell value shown cells p = max (cell_in shown cells p) (value p)

-- the pixel is the rectangle's at this place, counted row by row
pub record IsPlaceOf (rect : Rect) (place : ℕ) (p : Pixel) : Type 0 where
  pub inside : IsInRect rect p
  pub only : (q : Pixel) → IsInRect rect q → index_of rect.w (place_in rect q) ≡ place → q ≡ p

-- the bounds are widened in each rectangle in which the strip lies, and have those of its pixels, of the first so many,
-- where the values are above the limits
pub record AreWidenedBy (strip : Rect) (values limits : List ℕ) (count : ℕ) (old new : Bounds) : Type 0 where
  pub kept : (q : Pixel) → IsInBounds old q → IsInBounds new q
  pub lie : (rect : Rect) → LieIn old rect → LieIn (bounds_of strip) rect → LieIn new rect
  pub above : (p : Pixel) → IsInRect strip p → index_of strip.w (place_in strip p) < count
      → cell_in strip limits p < cell_in strip values p → IsInBounds new p

-- the bounds are widened in the rectangle, and have each pixel of the strip where the value is above the limit
pub record AreWidenedAt (rect strip : Rect) (value limit : Pixel → ℕ) (old new : Bounds) : Type 0 where
  pub kept : (q : Pixel) → IsInBounds old q → IsInBounds new q
  pub lie : LieIn old rect → LieIn new rect
  pub above : (p : Pixel) → IsInRect strip p → limit p < value p → IsInBounds new p
