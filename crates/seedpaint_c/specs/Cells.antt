-- A caller's cells as an image, a caller's number as a connectivity, and what is wrong with them.
use Rattle.std.specs.Prelude.{◌≡◌, ◌⊎◌, ℕ, List, length}
use Rattle.grid_core.specs.declared.conn.Conn.{Conn}
use Rattle.grid_core.specs.declared.conn.Conn.TheVariants.{Four, Eight}
use Rattle.grid_core.specs.Raster.{Raster, IsBelow, IsFilled, IsImageSize}
use Rattle.pgm_codec.specs.Graymap.{Graymap}

-- the image of this width and height with these cells, row by row from the top, each row from the left
abbrev pub image_of : ℕ → ℕ → List ℕ → Raster
image_of w h cells = record { width = w; height = h; cells = cells }

-- the same as a picture of this maxval
abbrev pub picture_of : ℕ → ℕ → ℕ → List ℕ → Graymap
picture_of w h maxval cells = record { raster = image_of w h cells; maxval = maxval }

-- the number names this connectivity: it is how many neighbours a pixel has
abbrev pub Names : ℕ → Conn → Type 0
Names number Four = number ≡ 4
Names number Eight = number ≡ 8

-- the number names none
abbrev pub NamesNone : ℕ → Type 0
NamesNone number = (number ≡ 4 → ⊥) × (number ≡ 8 → ⊥)

-- the number names a connectivity, and this is so under it
pub record HoldsUnder (number : ℕ) (Holds : Conn → Type 0) : Type 0 where
  pub conn : Conn
  pub named : Names number conn
  pub holds : Holds conn

-- the code says why these cells are no image of this width and height: no image has such sides, or there is not a cell
-- for each pixel
abbrev pub IsSizeFault : ℕ → ℕ → List ℕ → ℕ → Type 0
IsSizeFault w h cells code =
    ((code ≡ 5) × (IsImageSize w h → ⊥)) ⊎ ((code ≡ 6) × (IsFilled (image_of w h cells) → ⊥))

-- the code says why nothing was done with an image: by its size, its connectivity, or for want of memory
abbrev pub IsCellsFault : ℕ → ℕ → ℕ → List ℕ → ℕ → Type 0
IsCellsFault number w h cells code =
    IsSizeFault w h cells code ⊎ ((code ≡ 2) × NamesNone number) ⊎ (code ≡ 3)

-- the same of an image that is to grow below a mask: or there are not as many cells of the mask, or the image is above
-- it somewhere
abbrev pub IsGrowFault : ℕ → ℕ → ℕ → List ℕ → List ℕ → ℕ → Type 0
IsGrowFault number w h mask cells code =
    ((code ≡ 6) × (length mask ≡ length cells → ⊥))
    ⊎ ((code ≡ 7) × (IsBelow (image_of w h cells) (image_of w h mask) → ⊥))
    ⊎ IsCellsFault number w h cells code
