-- Growing an image in place, inside a rectangle. Only the steps of growing have these words in their contracts, but for
-- `CanGrow`, and for open pairs, of which `specs/OpenBounds.antt` speaks. What a reconstruction is stands in
-- `grid_core`'s `specs/Reconstruction.antt`, and what a rectangle is in `specs/Rects.antt` there.
use Rattle.std.specs.Prelude.{◌≡◌, ◌≢◌, ℕ, ◌+◌, ◌<◌, ◌≤◌, ◌⊎◌, Bool, IsTrue, List, [], ◌∷◌, length, slice_index}
use Rattle.std.specs.Prelude.{Contains}
use Rattle.grid_core.specs.{declared.conn.Conn.Conn, declared.pixel.Pixel.Pixel, declared.rect.Rect.Rect}
use Rattle.grid_core.specs.Raster.{Raster, IsInside, IsBelow, IsFilled, IsImageSize, headroom, index_of, value_at}
use Rattle.grid_core.specs.Reconstruction.{IsClosed, IsLawful, IsOpen}
use Rattle.grid_core.specs.Rects.{IsInRect, RectFits, domain_in, in_image, part}
use Rattle.raster_sweeps.specs.declared.size.Size.{Size}

-- whole rows of cells as an image
abbrev pub rows_of : Size → List ℕ → Raster
rows_of size cells = record { width = size.w; height = size.h; cells = cells }

-- the image may grow inside the rectangle: it is below the mask, and the rectangle lies in it
pub record CanGrow (rect : Rect) (mask image : Raster) : Type 0 where
  pub below : IsBelow image mask
  pub fits : RectFits mask.width mask.height rect

-- the rectangle lies in both images
pub record FitsBoth (rect : Rect) (mask image : Raster) : Type 0 where
  pub mask_fits : RectFits mask.width mask.height rect
  pub image_fits : RectFits image.width image.height rect

-- the image may grow inside the rectangle. Its sides are those that an image may have, and it and the mask have a value
-- for each pixel
pub record CanClose (rect : Rect) (mask image : Raster) : Type 0 where
  pub size : IsImageSize image.width image.height
  pub filled : IsFilled image
  pub mask_filled : IsFilled mask
  pub below : IsBelow image mask
  pub fits : RectFits mask.width mask.height rect

-- no pixel of the rectangle raises a neighbour in it
abbrev pub IsClosedIn : Conn → Rect → Raster → Raster → Type 0
IsClosedIn conn rect mask image =
    IsClosed (domain_in rect conn) (part rect (value_at mask)) (part rect (value_at image))

-- a pair of neighbours of the rectangle is open, both counted from its upper left corner
abbrev pub IsOpenIn : Conn → Rect → Raster → Raster → Pixel → Pixel → Type 0
IsOpenIn conn rect mask image p q =
    IsOpen (domain_in rect conn) (part rect (value_at mask)) (part rect (value_at image)) p q

-- an image has grown inside the rectangle: it has its size, every pixel outside has its value, it is below the mask,
-- and inside each value is at least what it was, and a level that the pixel reaches there
pub record IsGrown (conn : Conn) (rect : Rect) (mask before after : Raster) : Type 0 where
  pub width : after.width ≡ before.width
  pub height : after.height ≡ before.height
  pub filled : length after.cells ≡ length before.cells
  pub below : IsBelow after mask
  pub outside : (p : Pixel) → IsInside before.width before.height p → (IsInRect rect p → ⊥)
      → value_at after p ≡ value_at before p
  pub lawful : IsLawful (domain_in rect conn) (part rect (value_at mask)) (part rect (value_at before))
      (part rect (value_at after))

-- where a pixel of the rectangle stands among the cells of an image of this width
abbrev pub cell_of : Rect → ℕ → Pixel → ℕ
cell_of rect width p = index_of width (in_image rect p)

-- each open pair of the rectangle whose pixels both lie in its rows from `y` on has its first pixel in the queue
abbrev pub WaitFrom : Conn → Rect → Raster → Raster → ℕ → List ℕ → Type 0
WaitFrom conn rect mask image y waiting =
    (p q : Pixel) → IsOpenIn conn rect mask image p q → y ≤ p.y → y ≤ q.y
    → Contains waiting (cell_of rect image.width p)

-- each open pair of the rectangle has its first pixel in the queue
abbrev pub AllWait : Conn → Rect → Raster → Raster → List ℕ → Type 0
AllWait conn rect mask image waiting =
    (p q : Pixel) → IsOpenIn conn rect mask image p q → Contains waiting (cell_of rect image.width p)

-- the pixel is the one of this cell, in an image of this width
abbrev pub IsPixelOf : ℕ → ℕ → Pixel → Type 0
IsPixelOf width cell pixel = (p : Pixel) → p.x < width → index_of width p ≡ cell → pixel ≡ p

-- the cell is that of a pixel of the rectangle
abbrev pub IsCellIn : Rect → ℕ → ℕ → Type 0
IsCellIn rect width i = (p : Pixel) × IsInside rect.w rect.h p × (cell_of rect width p ≡ i)

-- each cell in the queue is that of a pixel of the rectangle
abbrev pub AreInside : Rect → ℕ → List ℕ → Type 0
AreInside rect width waiting = (i : ℕ) → Contains waiting i → IsCellIn rect width i

-- each cell in the queue is that of the first pixel of an open pair
abbrev pub AreOpen : Conn → Rect → Raster → Raster → List ℕ → Type 0
AreOpen conn rect mask image waiting =
    (i : ℕ) → Contains waiting i
    → (p : Pixel) × (q : Pixel) × IsOpenIn conn rect mask image p q × (cell_of rect image.width p ≡ i)

-- so it is, and there is such a cell
pub record AreSomeOpen (conn : Conn) (rect : Rect) (mask image : Raster) (waiting : List ℕ) : Type 0 where
  pub each : AreOpen conn rect mask image waiting
  pub some : 0 < length waiting

-- the image has grown inside the rectangle until no pixel there can raise a neighbour
pub record IsGrownUp (conn : Conn) (rect : Rect) (mask before after : Raster) : Type 0 where
  pub grown : IsGrown conn rect mask before after
  pub closed : IsClosedIn conn rect mask after

-- the image has grown inside the rectangle, and each open pair there waits, if there was room for all of them
pub record IsScannedInto (conn : Conn) (rect : Rect) (mask before after : Raster) (room : Bool) (waiting : List ℕ)
    : Type 0 where
  pub grown : IsGrown conn rect mask before after
  pub inside : AreInside rect after.width waiting
  pub waits : IsTrue room → AllWait conn rect mask after waiting

-- the cell has spread: the image has grown, and of its open pairs each that waited waits, if there was room for the
-- cells that rose, as does each cell that waited or rose; with these the queue grew by no more than the headroom fell
pub record CellHasSpread (conn : Conn) (rect : Rect) (mask before after : Raster) (cell : ℕ) (old new : List ℕ)
    (room : Bool) : Type 0 where
  pub grown : IsGrown conn rect mask before after
  pub inside : AreInside rect after.width new
  pub waits : IsTrue room → AllWait conn rect mask before (cell ∷ old) → AllWait conn rect mask after new
  pub count : IsTrue room → length old ≤ length new
  pub effort : IsTrue room → length new + headroom after.cells ≤ length old + headroom before.cells
  pub fell : IsTrue room ⊎ (headroom after.cells < headroom before.cells)
  pub rose : AreOpen conn rect mask before (cell ∷ []) → headroom after.cells < headroom before.cells
  pub stays : IsTrue room → (k : ℕ) → Contains old k ⊎ (slice_index after.cells k ≢ slice_index before.cells k)
      → Contains new k

-- the waiting cells have spread: the image has grown, and if the queue is done, and had each open pair, it is closed;
-- else a cell has risen
pub record IsDrained (conn : Conn) (rect : Rect) (mask before after : Raster) (waiting : List ℕ) (done : Bool)
    : Type 0 where
  pub grown : IsGrown conn rect mask before after
  pub closed : IsTrue done → AllWait conn rect mask before waiting → IsClosedIn conn rect mask after
  pub rose : IsTrue done ⊎ (headroom after.cells < headroom before.cells)
