-- The pixels around a tile.
use Rattle.std.specs.Prelude.{◌≡◌, ℕ, List, length}
use Rattle.grid_core.specs.{declared.pixel.Pixel.Pixel, declared.rect.Rect.Rect, Raster.Raster, Raster.value_at}
use Rattle.grid_core.specs.{Rects.IsInRect, Tiles.Tiles, Tiles.rect_of}
use Rattle.border_queues.specs.Around.{around_of}
use Rattle.tiled_image.specs.{declared.rims.Edge.Edge, Rims.strip_at, Rims.strip_of, Shown.cell_in}

-- the cells show the tile and the pixels around it row by row, and these pixels have the image's values. What stands at
-- the tile's own pixels does not matter
abbrev pub HasRing : Tiles → ℕ → Raster → List ℕ → Type 0
HasRing tiling tile image cells =
    (p : Pixel) → IsInRect (around_of tiling tile) p → (IsInRect (rect_of tiling tile) p → ⊥)
    → cell_in (around_of tiling tile) cells p ≡ value_at image p

-- so they do, and the pixels of the tile's first and last row and column have these values. What stands further in does
-- not matter
pub record HasRimmedRing (tiling : Tiles) (tile : ℕ) (image : Raster) (value : Pixel → ℕ) (cells : List ℕ) : Type 0
  where
    pub ring : HasRing tiling tile image cells
    pub border : (edge : Edge) (p : Pixel) → IsInRect (strip_of tiling tile edge) p
        → cell_in (around_of tiling tile) cells p ≡ value p

-- in cells that show a rectangle row by row, those of its pixels that lie in the other one have the image's values, and
-- the rest the old ones
pub record IsShownWhere (rect : Rect) (image : Raster) (shown : Rect) (old new : List ℕ) : Type 0 where
  pub count : length new ≡ length old
  pub inside : (p : Pixel) → IsInRect shown p → IsInRect rect p → cell_in shown new p ≡ value_at image p
  pub beyond : (p : Pixel) → IsInRect shown p → (IsInRect rect p → ⊥) → cell_in shown new p ≡ cell_in shown old p

-- in cells that show a rectangle row by row, the pixels of the first and last row and column of the other one have
-- these values, and those that lie outside of that the old ones
pub record IsBorderShown (rect : Rect) (value : Pixel → ℕ) (shown : Rect) (old new : List ℕ) : Type 0 where
  pub border : (edge : Edge) (p : Pixel) → IsInRect (strip_at edge rect) p → cell_in shown new p ≡ value p
  pub beyond : (p : Pixel) → IsInRect shown p → (IsInRect rect p → ⊥) → cell_in shown new p ≡ cell_in shown old p
