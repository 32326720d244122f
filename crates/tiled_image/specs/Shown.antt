-- Images and rows of cells that show a rectangle of a larger image. Pixels are those of the larger image.
use Rattle.std.specs.Prelude.{◌≡◌, ℕ, ◌-◌, ◌*◌, ◌<◌, ◌≤◌, Bool, true, false, List, length, slice_index}
use Rattle.grid_core.specs.{declared.bounds.Bounds.Bounds, declared.pixel.Pixel.Pixel, declared.rect.Rect.Rect}
use Rattle.grid_core.specs.Bounds.{IsInBounds, LieIn, bounds_of}
use Rattle.grid_core.specs.Raster.{Raster, IsFilled, IsInside, index_of, max_pixels, value_at}
use Rattle.grid_core.specs.Rects.{IsInRect, RectFits, in_image}

-- where a pixel stands in a rectangle, counted from the rectangle's upper left corner
abbrev pub place_in : Rect → Pixel → Pixel
place_in rect p = record { x = p.x - rect.x; y = p.y - rect.y }

-- the value at a pixel, of an image that shows the rectangle
abbrev pub value_in : Rect → Raster → Pixel → ℕ
value_in shown image p = value_at image (place_in shown p)

-- the value at a pixel, of cells that show the rectangle row by row
abbrev pub cell_in : Rect → List ℕ → Pixel → ℕ
cell_in shown cells p = slice_index cells (index_of shown.w (place_in shown p))

-- cells that show the rectangle row by row, as an image by themselves
abbrev pub as_image : Rect → List ℕ → Raster
as_image shown cells = record { width = shown.w; height = shown.h; cells = cells }

-- the source shows a rectangle in which this one lies, and has the whole image's values at its pixels
pub record Shows (rect : Rect) (whole source : Raster) (shown : Rect) : Type 0 where
  pub width : source.width ≡ shown.w
  pub height : source.height ≡ shown.h
  pub lies : LieIn (bounds_of rect) shown
  pub values : (p : Pixel) → IsInRect rect p → value_in shown source p ≡ value_at whole p

-- the source has in its own rectangle what the whole image has in the first one, which is of the same size
pub record HasPartAt (rect : Rect) (whole source : Raster) (own : Rect) : Type 0 where
  pub fits : RectFits source.width source.height own
  pub width : own.w ≡ rect.w
  pub height : own.h ≡ rect.h
  pub values : (p : Pixel) → IsInside rect.w rect.h p
      → value_at source (in_image own p) ≡ value_at whole (in_image rect p)

-- the bounds lie in the rectangle, and have within them each pixel of the others, which are counted from the
-- rectangle's upper left corner
pub record AreInWhole (rect : Rect) (counted bounds : Bounds) : Type 0 where
  pub lie : LieIn bounds rect
  pub kept : (p : Pixel) → IsInBounds counted p → IsInBounds bounds (in_image rect p)

-- the strip has a pixel, it lies in the rectangle that the source shows and in the one that so many cells are to show,
-- and there are enough of these
pub record CanCopy (strip : Rect) (source : Raster) (from to : Rect) (count : ℕ) : Type 0 where
  pub width : source.width ≡ from.w
  pub height : source.height ≡ from.h
  pub some_width : 0 < strip.w
  pub some_height : 0 < strip.h
  pub lies_from : LieIn (bounds_of strip) from
  pub lies_to : LieIn (bounds_of strip) to
  pub room : to.w * to.h ≤ count
  pub small : to.w * to.h ≤ max_pixels

-- in cells that show the rectangle row by row, the pixels of the strip have these values, and the others the old ones
pub record IsStripCopied (strip : Rect) (value : Pixel → ℕ) (shown : Rect) (old new : List ℕ) : Type 0 where
  pub count : length new ≡ length old
  pub inside : (p : Pixel) → IsInRect strip p → cell_in shown new p ≡ value p
  pub beyond : (p : Pixel) → IsInRect shown p → (IsInRect strip p → ⊥) → cell_in shown new p ≡ cell_in shown old p

-- ---- pixel by pixel

-- the value is the other one, or is at most that
abbrev pub IsWithin : Bool → ℕ → ℕ → Type 0
IsWithin true value own = value ≡ own
IsWithin false value own = value ≤ own

-- so in the first so many pixels of row y of a rectangle, where the piece is counted from its upper left corner
abbrev pub IsRowWithin : Bool → Rect → Raster → Raster → ℕ → ℕ → Type 0
IsRowWithin is_equal rect whole piece y columns =
    (x : ℕ) → x < columns
    → IsWithin is_equal (value_at piece (record { x = x; y = y }))
    (value_at whole (in_image rect (record { x = x; y = y })))

-- so at each pixel of the rectangle, and the piece has its size
pub record IsWithinPart (is_equal : Bool) (rect : Rect) (whole piece : Raster) : Type 0 where
  pub width : piece.width ≡ rect.w
  pub height : piece.height ≡ rect.h
  pub filled : IsFilled piece
  pub rows : (y : ℕ) → y < rect.h → IsRowWithin is_equal rect whole piece y rect.w
