-- The way of a level along a column, from cell to cell. Only private functions have these words in their contracts.
use Rattle.std.specs.Prelude.{◌≡◌, ℕ, ◌+◌, ◌-◌, ◌<◌, ◌≤◌, ◌⊎◌, List, ◌∷◌, min, slice_index, slice_set}
use Rattle.grid_core.specs.{declared.conn.Conn.Conn, declared.pixel.Pixel.Pixel, declared.rect.Rect.Rect}
use Rattle.grid_core.specs.Raster.{Raster, IsInside}
use Rattle.raster_sweeps.specs.Growth.{AllWait, IsCellIn, IsGrown, cell_of}

-- a cell was followed: the image has grown inside the rectangle, and each open pair that waited waits, with the last
-- cell of the way in the place of the first
pub record IsFollowed (conn : Conn) (rect : Rect) (mask before after : Raster) (first last : ℕ) : Type 0 where
  pub grown : IsGrown conn rect mask before after
  pub inside : IsCellIn rect after.width last
  pub waits : (others : List ℕ) → AllWait conn rect mask before (first ∷ others)
      → AllWait conn rect mask after (last ∷ others)

-- the level can raise none of three cells side by side, of which this is the middle one
abbrev pub NoneRises : List ℕ → List ℕ → ℕ → ℕ → Type 0
NoneRises mask cells level middle =
    (k : ℕ) → middle ≤ k + 1 → k ≤ middle + 1 → min level (slice_index mask k) ≤ slice_index cells k

-- the level can raise the cell, and neither of those on either side of it
abbrev pub CanRiseAlone : List ℕ → ℕ → List ℕ → ℕ → Type 0
CanRiseAlone mask level cells middle =
    (slice_index cells middle < min level (slice_index mask middle))
    × (min level (slice_index mask (middle - 1)) ≤ slice_index cells (middle - 1))
    × (min level (slice_index mask (middle + 1)) ≤ slice_index cells (middle + 1))

-- the cell alone rises to the level, as far as the mask lets it, and those on either side of it would not
pub record HasRisenAlone (mask : List ℕ) (level : ℕ) (before after : List ℕ) (middle : ℕ) : Type 0 where
  pub rises : slice_index before middle < min level (slice_index mask middle)
  pub raised : after ≡ slice_set before middle (min level (slice_index mask middle))
  pub left : min level (slice_index mask (middle - 1)) ≤ slice_index before (middle - 1)
  pub right : min level (slice_index mask (middle + 1)) ≤ slice_index before (middle + 1)

-- two cells are those of pixels one above the other, not in the first or last column of the rectangle. In the direction
-- from the one behind to the other it has so many rows more
pub record IsWay (rect : Rect) (width behind cell count : ℕ) : Type 0 where
  pub last : Pixel
  pub here : Pixel
  pub last_inside : IsInside rect.w rect.h last
  pub here_inside : IsInside rect.w rect.h here
  pub last_cell : cell_of rect width last ≡ behind
  pub here_cell : cell_of rect width here ≡ cell
  pub column : last.x ≡ here.x
  pub left : 0 < here.x
  pub right : here.x + 1 < rect.w
  pub rows : ((here.y ≡ last.y + 1) × (here.y + count < rect.h)) ⊎ ((last.y ≡ here.y + 1) × (count ≤ here.y))

-- the cell can raise none of those beside it, of the one behind it, and of those beside that
pub record IsBehind (mask image : Raster) (behind cell : ℕ) : Type 0 where
  pub last : NoneRises mask.cells image.cells (slice_index image.cells cell) behind
  pub beside : NoneRises mask.cells image.cells (slice_index image.cells cell) cell

-- the cell has raised the next one of the column, and that can raise none but the one after it
pub record HasPassed (rect : Rect) (mask before after : Raster) (behind cell : ℕ) : Type 0 where
  pub followed : (conn : Conn) → IsFollowed conn rect mask before after cell (cell + cell - behind)
  pub shut : IsBehind mask after cell (cell + cell - behind)
