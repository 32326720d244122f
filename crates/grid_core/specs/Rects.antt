-- Rectangles of pixels, and the part of an image in one.
use Rattle.std.specs.Prelude.{◌≡◌, ℕ, ◌+◌, ◌<◌, ◌≤◌, List, length, slice_index}
use Rattle.grid_core.specs.{declared.conn.Conn.Conn, declared.pixel.Pixel.Pixel, declared.rect.Rect.Rect, Path.Domain}
use Rattle.grid_core.specs.Raster.{Raster, IsInside, IsFilled, IsOfSize, value_at}

-- the pixel lies in the rectangle
abbrev pub IsInRect : Rect → Pixel → Type 0
IsInRect rect p = (rect.x ≤ p.x) × (p.x < rect.x + rect.w) × (rect.y ≤ p.y) × (p.y < rect.y + rect.h)

-- the rectangle has a pixel, and all of its pixels lie in an image of this width and height
pub record RectFits (width height : ℕ) (rect : Rect) : Type 0 where
  pub some_width : 0 < rect.w
  pub some_height : 0 < rect.h
  pub columns : rect.x + rect.w ≤ width
  pub rows : rect.y + rect.h ≤ height

-- the pixel of the image that a pixel of the rectangle is, counted from the rectangle's upper left corner
abbrev pub in_image : Rect → Pixel → Pixel
in_image rect p = record { x = rect.x + p.x; y = rect.y + p.y }

-- the part of an image in the rectangle, as an image by itself
abbrev pub part : Rect → (Pixel → ℕ) → Pixel → ℕ
part rect f p = f (in_image rect p)

-- where the part of an image in the rectangle is defined, with a connectivity
abbrev pub domain_in : Rect → Conn → Domain
domain_in rect conn = record { width = rect.w; height = rect.h; conn = conn }

-- the list has the values of row y, from the left, of as many columns as the width says
pub record IsRowOf (width : ℕ) (f : Pixel → ℕ) (y : ℕ) (row : List ℕ) : Type 0 where
  pub long : length row ≡ width
  pub values : (x : ℕ) → x < width → slice_index row x ≡ f (record { x = x; y = y })

-- the piece is the part of the whole image in the rectangle
pub record IsPart (rect : Rect) (whole piece : Raster) : Type 0 where
  pub width : piece.width ≡ rect.w
  pub height : piece.height ≡ rect.h
  pub filled : IsFilled piece
  pub values : (p : Pixel) → IsInside rect.w rect.h p → value_at piece p ≡ value_at whole (in_image rect p)

-- the piece is at most the part of the whole image in the rectangle
pub record IsAtMostPart (rect : Rect) (whole piece : Raster) : Type 0 where
  pub width : piece.width ≡ rect.w
  pub height : piece.height ≡ rect.h
  pub filled : IsFilled piece
  pub values : (p : Pixel) → IsInside rect.w rect.h p → value_at piece p ≤ value_at whole (in_image rect p)

-- the new image has the size of the old one, and its values outside the rectangle
pub record IsPatch (rect : Rect) (old new : Raster) : Type 0 where
  pub size : IsOfSize old new
  pub beyond : (p : Pixel) → IsInside old.width old.height p → (IsInRect rect p → ⊥) → value_at new p ≡ value_at old p

-- the cells of the new image from the first place up to the second have these values, and the others are the old ones
pub record AreCellsChanged (from to : ℕ) (value : ℕ → ℕ) (old new : Raster) : Type 0 where
  pub width : new.width ≡ old.width
  pub height : new.height ≡ old.height
  pub count : length new.cells ≡ length old.cells
  pub inside : (k : ℕ) → from ≤ k → k < to → slice_index new.cells k ≡ value k
  pub before : (k : ℕ) → k < from → slice_index new.cells k ≡ slice_index old.cells k
  pub after : (k : ℕ) → to ≤ k → k < length old.cells → slice_index new.cells k ≡ slice_index old.cells k
