-- The parts of an image in its tiles, of which some are there, and what changes of them.
use Rattle.std.specs.Prelude.{◌≡◌, ℕ, List, Option, Some, None, length, slice_index_or, slice_set}
use Rattle.grid_core.specs.{declared.pixel.Pixel.Pixel, Raster.Raster, Raster.with_value}

-- the part is there, and one pixel of it has another value
pub record IsSetAt (p : Pixel) (value : ℕ) (old new : Option Raster) : Type 0 where
  pub part : Raster
  pub was : old ≡ Some part
  pub is : new ≡ Some (with_value part p value)

-- the tile's part is there, one pixel of it has another value, and nothing else changed
pub record IsPartSet (tile : ℕ) (p : Pixel) (value : ℕ) (old new : List (Option Raster)) : Type 0 where
  pub part : Raster
  pub was : slice_index_or old tile None ≡ Some part
  pub is : new ≡ slice_set old tile (Some (with_value part p value))

-- the tiles of which this holds have no part, and the others the one that they had, if one
pub record AreLetGo (P : ℕ → Type 0) (old new : List (Option Raster)) : Type 0 where
  pub count : length new ≡ length old
  pub gone : (t : ℕ) → P t → slice_index_or new t None ≡ None
  pub others : (t : ℕ) → (P t → ⊥) → slice_index_or new t None ≡ slice_index_or old t None
