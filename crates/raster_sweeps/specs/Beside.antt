-- The pixels beside a pixel, where those that rise join a trail. Only private functions have these words in their
-- contracts.
use Rattle.std.specs.Prelude.{◌≡◌, ℕ, ◌+◌, ◌*◌, ◌<◌, ◌≤◌, IsTrue, List, length, true}
use Rattle.grid_core.specs.{declared.pixel.Pixel.Pixel, declared.rect.Rect.Rect, Neighbours.apart, Rects.IsInRect}
use Rattle.grid_core.specs.Raster.{index_of, max_pixels, max_side}
use Rattle.raster_sweeps.specs.{Spans.AreSpread, Trail.Trail}

-- the pixel lies right above another, or left of it, right of it, or right below it
abbrev pub IsAbove : Pixel → Pixel → Type 0
IsAbove p q = (q.x ≡ p.x) × (q.y + 1 ≡ p.y)

abbrev pub IsLeft : Pixel → Pixel → Type 0
IsLeft p q = (q.x + 1 ≡ p.x) × (q.y ≡ p.y)

abbrev pub IsRight : Pixel → Pixel → Type 0
IsRight p q = (q.x ≡ p.x + 1) × (q.y ≡ p.y)

abbrev pub IsUnder : Pixel → Pixel → Type 0
IsUnder p q = (q.x ≡ p.x) × (q.y ≡ p.y + 1)

-- the pixel lies in the row of another, and at most one column from it
abbrev pub IsInRow : Pixel → Pixel → Type 0
IsInRow p q = (apart p.x q.x ≤ 1) × (q.y ≡ p.y)

-- the pixel lies in the row above another, or below it, and at most one column from it
abbrev pub IsInRowAbove : Pixel → Pixel → Type 0
IsInRowAbove p q = (apart p.x q.x ≤ 1) × (q.y + 1 ≡ p.y)

abbrev pub IsInRowBelow : Pixel → Pixel → Type 0
IsInRowBelow p q = (apart p.x q.x ≤ 1) × (q.y ≡ p.y + 1)

-- the pixel lies at most one column and one row from another
abbrev pub IsNear : Pixel → Pixel → Type 0
IsNear p q = (apart p.x q.x ≤ 1) × (apart p.y q.y ≤ 1)

-- the cell is that of such a pixel of the rectangle, in an image of this width
abbrev pub IsCellOf : Rect → ℕ → (Pixel → Type 0) → ℕ → Type 0
IsCellOf rect width is_such k = (q : Pixel) × IsInRect rect q × is_such q × (index_of width q ≡ k)

-- each pixel of the rectangle has its cell among these, in rows of this width, and so it has in the mask. There are no
-- more rows, columns and cells than an image may have
pub record HasCells (rect : Rect) (width : ℕ) (mask cells : List ℕ) : Type 0 where
  pub columns : rect.x + rect.w ≤ width
  pub width_within : width ≤ max_side
  pub rows_within : rect.y + rect.h ≤ max_side
  pub within : (rect.y + rect.h) * width ≤ length cells
  pub cells_within : length cells ≤ max_pixels
  pub same : length mask ≡ length cells

-- the pixel is one of a rectangle that has cells, and has this one. The trail is for images of that width, and so many
-- pixels may join it
pub record StandsAt (rect : Rect) (mask cells : List ℕ) (trail : Trail) (cell : ℕ) (p : Pixel) (places : ℕ)
    : Type 0 where
  pub has : HasCells rect trail.width mask cells
  pub inside : IsInRect rect p
  pub place : index_of trail.width p ≡ cell
  pub room : places ≤ trail.places

-- the pixel has this cell, among these and in the mask, and may join the trail, which has a place for it
pub record CanJoin (mask cells : List ℕ) (trail : Trail) (cell : ℕ) (pixel : Pixel) : Type 0 where
  pub within : cell < length cells
  pub same : length mask ≡ length cells
  pub place : index_of trail.width pixel ≡ cell
  pub column : pixel.x < trail.width
  pub row : pixel.y < max_side
  pub room : 0 < trail.places

-- the cells at these places are raised, and the pixels of those that rise have joined the trail, which has its width,
-- and has lost no more than so many places
pub record AreSpreadOn (at : ℕ → Type 0) (mask : List ℕ) (level : ℕ) (before after : List ℕ) (old new : Trail)
    (places : ℕ) : Type 0 where
  pub spread : AreSpread at mask level before after old.cells new.cells (IsTrue true)
  pub width : new.width ≡ old.width
  pub room : old.places ≤ new.places + places
