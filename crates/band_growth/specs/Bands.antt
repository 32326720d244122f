-- Whole rows that are cut into those above a row and those from it on. But for the two halves and what lies across the
-- cut, of which `specs/Laws.antt` speaks, only private functions have these words in their contracts.
use Rattle.std.specs.Prelude.{◌≡◌, ℕ, ◌+◌, ◌-◌, ◌<◌, ◌≤◌, ◌⊎◌, List}
use Rattle.grid_core.specs.{declared.conn.Conn.Conn, declared.pixel.Pixel.Pixel, declared.rect.Rect.Rect}
use Rattle.raster_sweeps.specs.declared.size.Size.{Size}
use Rattle.raster_sweeps.specs.Growth.{CanClose, IsClosedIn, IsGrown, IsGrownUp, IsOpenIn, rows_of}

-- the rectangle of all pixels of whole rows
abbrev pub all_of : Size → Rect
all_of size = record { x = 0; y = 0; w = size.w; h = size.h }

-- the rows may grow
abbrev pub CanGrowRows : Size → List ℕ → List ℕ → Type 0
CanGrowRows size mask image = CanClose (all_of size) (rows_of size mask) (rows_of size image)

-- the rows have grown
abbrev pub AreGrown : Conn → Size → List ℕ → List ℕ → List ℕ → Type 0
AreGrown conn size mask before after =
    IsGrown conn (all_of size) (rows_of size mask) (rows_of size before) (rows_of size after)

-- no pixel of the rows can raise a neighbour
abbrev pub AreClosed : Conn → Size → List ℕ → List ℕ → Type 0
AreClosed conn size mask image = IsClosedIn conn (all_of size) (rows_of size mask) (rows_of size image)

-- the rows have grown until no pixel can raise a neighbour
abbrev pub AreGrownUp : Conn → Size → List ℕ → List ℕ → List ℕ → Type 0
AreGrownUp conn size mask before after =
    IsGrownUp conn (all_of size) (rows_of size mask) (rows_of size before) (rows_of size after)

-- the first of so many rows, and those after them
abbrev pub above : Size → ℕ → Size
above size cut = record { w = size.w; h = cut }

abbrev pub below : Size → ℕ → Size
below size cut = record { w = size.w; h = size.h - cut }

-- the rectangle of the rows above a row, and that of the rows from it on
abbrev pub rows_above : ℕ → ℕ → Rect
rows_above width cut = record { x = 0; y = 0; w = width; h = cut }

abbrev pub rows_from : ℕ → ℕ → ℕ → Rect
rows_from width height cut = record { x = 0; y = cut; w = width; h = height - cut }

-- one of the pixels lies in the last row above the cut, and the other in the first row below it
abbrev pub IsAcross : ℕ → Pixel → Pixel → Type 0
IsAcross cut p q = ((p.y + 1 ≡ cut) × (q.y ≡ cut)) ⊎ ((p.y ≡ cut) × (q.y + 1 ≡ cut))

-- a row lies between two rows
pub record IsCut (size : Size) (cut : ℕ) : Type 0 where
  pub some_above : 0 < cut
  pub some_below : cut < size.h

-- the first pixel of the rows can raise the second, which is its neighbour
abbrev pub IsOpenPair : Conn → Size → List ℕ → List ℕ → Pixel → Pixel → Type 0
IsOpenPair conn size mask image p q = IsOpenIn conn (all_of size) (rows_of size mask) (rows_of size image) p q

-- of the pixels before the row `top` none can raise a neighbour there, and of those from the row `bottom` on none one
-- there
pub record AreClosedApart (conn : Conn) (size : Size) (mask image : List ℕ) (top bottom : ℕ) : Type 0 where
  pub before : (p q : Pixel) → IsOpenPair conn size mask image p q → p.y < top → q.y < top → ⊥
  pub from : (p q : Pixel) → IsOpenPair conn size mask image p q → bottom ≤ p.y → bottom ≤ q.y → ⊥
