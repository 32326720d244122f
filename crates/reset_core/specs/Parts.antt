-- Parts of images that are raised, and what is above them.
use Rattle.std.specs.Prelude.{◌≡◌, ◌<◌, ◌≤◌, ℕ, ◌-◌, max, List, slice_index}
use Rattle.grid_core.specs.{declared.bounds.Bounds.Bounds, declared.pixel.Pixel.Pixel, declared.rect.Rect.Rect}
use Rattle.grid_core.specs.{Bounds.IsInBounds, Bounds.LieIn, Rects.IsInRect, Rects.IsPart, Rects.RectFits}
use Rattle.grid_core.specs.Rects.{in_image}
use Rattle.grid_core.specs.Raster.{Raster, IsInside, IsFilled, value_at}

-- the rectangle lies in the whole image, and the piece has its size
pub record IsPieceFor (rect : Rect) (whole piece : Raster) : Type 0 where
  pub fits : RectFits whole.width whole.height rect
  pub width : piece.width ≡ rect.w
  pub height : piece.height ≡ rect.h

-- the part of the whole image in the rectangle is nowhere above the piece
abbrev pub IsBelowPiece : Rect → Raster → Raster → Type 0
IsBelowPiece rect whole piece =
    (p : Pixel) → IsInside rect.w rect.h p → value_at whole (in_image rect p) ≤ value_at piece p

-- the cells are those of the whole image in the rectangle, row by row
abbrev pub AreCellsIn : Rect → Raster → List ℕ → Type 0
AreCellsIn rect whole cells = IsPart rect whole (record { width = rect.w; height = rect.h; cells = cells })

-- the greater of a cell and of the value for it, where the values begin at a place
abbrev pub raised_from : ℕ → List ℕ → List ℕ → ℕ → ℕ
raised_from start values cells k = max (slice_index cells k) (slice_index values (k - start))

-- the part of the whole image in the rectangle, raised to the piece
pub record IsRaisedPart (rect : Rect) (whole piece part : Raster) : Type 0 where
  pub width : part.width ≡ rect.w
  pub height : part.height ≡ rect.h
  pub filled : IsFilled part
  pub values : (p : Pixel) → IsInside rect.w rect.h p
      → value_at part p ≡ max (value_at whole (in_image rect p)) (value_at piece p)

-- ---- bounds of what is above

-- the bounds are widened, in each rectangle that has the pixel, and have it where the value is above the limit
pub record AreWidenedAbove (old : Bounds) (p : Pixel) (value limit : ℕ) (new : Bounds) : Type 0 where
  pub kept : (q : Pixel) → IsInBounds old q → IsInBounds new q
  pub lie : (rect : Rect) → LieIn old rect → IsInRect rect p → LieIn new rect
  pub above : limit < value → IsInBounds new p

-- the bounds are widened in the rectangle, and have the first so many pixels of its row y, from the left, where the
-- values are above the limits
pub record AreWidenedByRow (rect : Rect) (y : ℕ) (values limits : List ℕ) (columns : ℕ)
    (old new : Bounds) : Type 0 where
  pub kept : (q : Pixel) → IsInBounds old q → IsInBounds new q
  pub lie : LieIn old rect → LieIn new rect
  pub above : (x : ℕ) → x < columns → slice_index limits x < slice_index values x
      → IsInBounds new (in_image rect (record { x = x; y = y }))

-- the bounds lie in the rectangle, and have each pixel of its first so many rows where the whole image is above the
-- piece
pub record AreBoundsAbove (rect : Rect) (rows : ℕ) (whole piece : Raster) (bounds : Bounds) : Type 0 where
  pub lie : LieIn bounds rect
  pub above : (p : Pixel) → IsInside rect.w rows p → value_at piece p < value_at whole (in_image rect p)
      → IsInBounds bounds (in_image rect p)
