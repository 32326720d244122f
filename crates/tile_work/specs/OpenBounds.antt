-- For each tile bounds outside which nothing open begins.
use Rattle.std.specs.Prelude.{◌≡◌, ℕ, ◌<◌, List, length, slice_index_or}
use Rattle.grid_core.specs.{declared.bounds.Bounds.Bounds, declared.pixel.Pixel.Pixel, Bounds.IsInBounds, Bounds.LieIn}
use Rattle.grid_core.specs.{Bounds.no_bounds, Tiles.Tiles, Tiles.rect_of, Tiles.tile_of}

-- the bounds of a tile
abbrev pub bounds_for : List Bounds → ℕ → Bounds
bounds_for table t = slice_index_or table t no_bounds

-- the pixel lies within the bounds of its tile
abbrev pub IsWithinItsBounds : Tiles → List Bounds → Pixel → Type 0
IsWithinItsBounds tiles table p = IsInBounds (bounds_for table (tile_of tiles p)) p

-- the new bounds of each tile have within them what the old ones had, and do not reach out of the tile where these did
-- not
pub record AreWidened (tiles : Tiles) (old new : List Bounds) : Type 0 where
  pub count : length new ≡ length old
  pub kept : (t : ℕ) (p : Pixel) → t < length old → IsInBounds (bounds_for old t) p → IsInBounds (bounds_for new t) p
  pub lie : (t : ℕ) → t < length old → LieIn (bounds_for old t) (rect_of tiles t)
      → LieIn (bounds_for new t) (rect_of tiles t)

-- each tile's bounds lie in it
abbrev pub LieInTiles : Tiles → List Bounds → Type 0
LieInTiles tiles table = (t : ℕ) → t < length table → LieIn (bounds_for table t) (rect_of tiles t)
