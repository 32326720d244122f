-- Rows of a rectangle, and the pairs of pixels in one of them or in two that touch. Only private functions and those of
-- `steps` have these words in their contracts; which pixels are neighbours stands in `specs/Neighbours.antt` of
-- `grid_core`.
use Rattle.std.specs.Prelude.{◌≡◌, ℕ, ◌+◌, ◌<◌, ◌≤◌, Bool, List, min}
use Rattle.grid_core.specs.{declared.pixel.Pixel.Pixel, declared.conn.Conn.Conn, declared.rect.Rect.Rect}
use Rattle.grid_core.specs.{Neighbours.apart, Neighbours.AreNeighbours, Path.Domain, Path.Inside}
use Rattle.grid_core.specs.Raster.{Raster, IsBelow, IsFilled, IsImageSize, IsInside, max_pixels, value_at}
use Rattle.grid_core.specs.Rects.{RectFits, domain_in, part}
use Rattle.row_scans.specs.Rows.{HaveJoined}
use Rattle.raster_sweeps.specs.Growth.{IsGrown, IsOpenIn, cell_of}

-- the image may grow inside the rectangle, as `CanClose` says, and the rectangle has this row
pub record CanGrowRow (rect : Rect) (mask image : Raster) (y : ℕ) : Type 0 where
  pub size : IsImageSize image.width image.height
  pub filled : IsFilled image
  pub mask_filled : IsFilled mask
  pub below : IsBelow image mask
  pub fits : RectFits mask.width mask.height rect
  pub row : y < rect.h

-- the image may grow inside the rectangle, as `CanClose` says, and the rectangle has these two rows, and they touch
pub record CanGrowAcross (rect : Rect) (mask image : Raster) (y z : ℕ) : Type 0 where
  pub size : IsImageSize image.width image.height
  pub filled : IsFilled image
  pub mask_filled : IsFilled mask
  pub below : IsBelow image mask
  pub fits : RectFits mask.width mask.height rect
  pub from : y < rect.h
  pub to : z < rect.h
  pub touch : apart y z ≡ 1

-- each pixel of the row is 0
abbrev pub IsDark : Rect → Raster → ℕ → Type 0
IsDark rect image y = (p : Pixel) → IsInside rect.w rect.h p → p.y ≡ y → part rect (value_at image) p ≡ 0

-- the cell is the first of the rectangle's row
pub record IsFirstOfRow (rect : Rect) (width y cell : ℕ) : Type 0 where
  pub place : cell ≡ cell_of rect width (record { x = 0; y = y })
  pub within : cell + rect.w ≤ max_pixels

-- the first pixel lies in the one row, and the second in the other
abbrev pub IsFromTo : ℕ → ℕ → ℕ → ℕ → Type 0
IsFromTo y z a b = (a ≡ y) × (b ≡ z)

-- the upper of the two rows is this one
abbrev pub IsUpper : ℕ → ℕ → ℕ → Type 0
IsUpper y a b = min a b ≡ y

-- the first row lies no lower than the second
abbrev pub IsNotUp : ℕ → ℕ → Type 0
IsNotUp a b = a ≤ b

-- of the pairs of the rectangle whose two rows, counted from its top, are such none is open
abbrev pub NoneOpen : Conn → Rect → Raster → Raster → (ℕ → ℕ → Type 0) → Type 0
NoneOpen conn rect mask image AreRows = (p q : Pixel) → IsOpenIn conn rect mask image p q → AreRows p.y q.y → ⊥

-- no pixel of the row raises the one to its left
abbrev pub NoneOpenToLeft : Conn → Rect → Raster → Raster → ℕ → Type 0
NoneOpenToLeft conn rect mask image y =
    (p q : Pixel) → IsOpenIn conn rect mask image p q → IsFromTo y y p.y q.y → q.x < p.x → ⊥

-- no pixel of the row raises the one to its right
abbrev pub NoneOpenToRight : Conn → Rect → Raster → Raster → ℕ → Type 0
NoneOpenToRight conn rect mask image y =
    (p q : Pixel) → IsOpenIn conn rect mask image p q → IsFromTo y y p.y q.y → p.x < q.x → ⊥

-- no pixel of the row raises another in it
abbrev pub NoneOpenAlong : Conn → Rect → Raster → Raster → ℕ → Type 0
NoneOpenAlong conn rect mask image y = NoneOpen conn rect mask image (IsFromTo y y)

-- as the anti-raster scan leaves a row: no pixel of it raises another in it, and none of the row below one of it
pub record IsScannedUp (conn : Conn) (rect : Rect) (mask image : Raster) (y : ℕ) : Type 0 where
  pub along : NoneOpenAlong conn rect mask image y
  pub up : NoneOpen conn rect mask image (IsFromTo (y + 1) y)

-- no pixel raises a neighbour, of the pairs whose upper pixel, or both, lie in this row
abbrev pub IsRowClosed : Domain → (Pixel → ℕ) → (Pixel → ℕ) → ℕ → Type 0
IsRowClosed d mask j y =
    (p q : Pixel) → Inside d p → Inside d q → AreNeighbours d.conn p q → min p.y q.y ≡ y → min (j p) (mask q) ≤ j q

-- so it is in the rectangle, with its rows counted from its top
abbrev pub IsRowClosedIn : Conn → Rect → Raster → Raster → ℕ → Type 0
IsRowClosedIn conn rect mask image =
    IsRowClosed (domain_in rect conn) (part rect (value_at mask)) (part rect (value_at image))

-- the cell is that of the first pixel of an open pair whose two rows, counted from the rectangle's top, are such
pub record IsOpenCell (conn : Conn) (rect : Rect) (mask image : Raster) (AreRows : ℕ → ℕ → Type 0) (cell : ℕ) : Type 0
  where
    pub pixel : Pixel
    pub other : Pixel
    pub raises : IsOpenIn conn rect mask image pixel other
    pub rows : AreRows pixel.y other.y
    pub place : cell_of rect image.width pixel ≡ cell

-- the cell is that of a pixel of this kind, counted from the rectangle's upper left corner, that is the first of an
-- open pair
pub record IsOpenFrom (conn : Conn) (rect : Rect) (mask image : Raster) (IsFrom : Pixel → Type 0) (cell : ℕ) : Type 0
  where
    pub pixel : Pixel
    pub other : Pixel
    pub raises : IsOpenIn conn rect mask image pixel other
    pub from : IsFrom pixel
    pub place : cell_of rect image.width pixel ≡ cell

-- the cells of the pixels of this kind that are the first of an open pair have joined the queue
abbrev pub AreJoined : Conn → Rect → Raster → Raster → (Pixel → Type 0) → Bool → List ℕ → List ℕ → Type 0
AreJoined conn rect mask image IsFrom room old new = HaveJoined (IsOpenFrom conn rect mask image IsFrom) room old new

-- an image has grown inside the rectangle, in no row but this one
pub record IsRowGrown (conn : Conn) (rect : Rect) (mask : Raster) (y : ℕ) (before after : Raster) : Type 0 where
  pub grown : IsGrown conn rect mask before after
  pub others : (p : Pixel) → IsInside rect.w rect.h p → (p.y ≡ y → ⊥)
      → part rect (value_at after) p ≡ part rect (value_at before) p
