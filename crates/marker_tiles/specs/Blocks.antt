-- An image cut into blocks, at most 64 by 64, with a level for each, and what raising it block by block leaves. Private
-- functions have it in their contracts.
use Rattle.std.specs.Prelude.{◌≡◌, ℕ, ◌+◌, ◌*◌, ◌/◌, ◌<◌, ◌≤◌, min, max, slice_index, if◌then◌else◌}
use Rattle.grid_core.specs.declared.pixel.Pixel.{Pixel}
use Rattle.grid_core.specs.Raster.{Raster, IsInside, IsOfSize, value_at}
use Rattle.stroke_core.specs.Seed.{disc_covers}
use Rattle.marker_tiles.specs.{declared.blocks.Blocks.Blocks, declared.window.Window.Window}

-- the number of the block in this column and this row of blocks
abbrev pub block_at : ℕ → ℕ → ℕ
block_at column row = row * 64 + column

-- the level that the block of the pixel has
abbrev pub level_in : Blocks → Pixel → ℕ
level_in b p = slice_index b.levels (block_at (p.x / b.side) (p.y / b.side))

-- blocks of this side may be: the greatest are those of the largest image
pub record IsBlockSide (side : ℕ) : Type 0 where
  pub some : 0 < side
  pub small : side ≤ 256

-- blocks of this side cut an image of this width and height
pub record AreBlocksOf (width height side : ℕ) : Type 0 where
  pub is_side : IsBlockSide side
  pub columns : width ≤ 64 * side
  pub rows : height ≤ 64 * side

-- an image of this width and height has the block in this column and row of blocks
pub record HasBlock (width height side column row : ℕ) : Type 0 where
  pub blocks : AreBlocksOf width height side
  pub right : column * side < width
  pub below : row * side < height

-- the part of it in that block
abbrev pub block_window : ℕ → ℕ → ℕ → ℕ → ℕ → Window
block_window side width height column row = record {
  left = column * side;
  right = min (column * side + side) width;
  top = row * side;
  bottom = min (row * side + side) height;
}

-- the pixel lies in the square of this side, whose upper left corner is in this column and row
pub record IsInSquare (left top side : ℕ) (p : Pixel) : Type 0 where
  pub from_left : left ≤ p.x
  pub to_right : p.x < left + side
  pub from_top : top ≤ p.y
  pub to_bottom : p.y < top + side

-- the level where the disc covers the pixel, else 0
abbrev pub disc_level : ℕ → ℕ → ℕ → ℕ → Pixel → ℕ
disc_level x y r level p = if disc_covers x y r p then level else 0

-- the levels of the blocks have risen at most to this level at each of their pixels
pub record AreNoted (level : Pixel → ℕ) (old new : Blocks) : Type 0 where
  pub side : new.side ≡ old.side
  pub levels : (p : Pixel) → p.x / old.side < 64 → level_in new p ≤ max (level_in old p) (level p)

-- the image has risen, at each pixel at most to this level and as far as the mask lets it
pub record IsRaisedWithin (level : Pixel → ℕ) (mask old new : Raster) : Type 0 where
  pub size : IsOfSize mask new
  pub rises : (p : Pixel) → IsInside mask.width mask.height p → value_at old p ≤ value_at new p
  pub within : (p : Pixel) → IsInside mask.width mask.height p
      → value_at new p ≤ max (value_at old p) (min (value_at mask p) (level p))

-- at the pixels of which something holds the image has this level, as far as the mask lets it
abbrev pub HasLevelWhere : (Pixel → Type 0) → (Pixel → ℕ) → Raster → Raster → Type 0
HasLevelWhere P level mask image =
    (p : Pixel) → IsInside mask.width mask.height p → P p → min (value_at mask p) (level p) ≤ value_at image p

-- at each of its pixels
abbrev pub HasLevel : (Pixel → ℕ) → Raster → Raster → Type 0
HasLevel level mask image =
    (p : Pixel) → IsInside mask.width mask.height p → min (value_at mask p) (level p) ≤ value_at image p

-- the pixel lies in this row of blocks
abbrev pub IsInRow : ℕ → ℕ → Pixel → Type 0
IsInRow side row p = p.y / side ≡ row

-- the pixel lies in this block
abbrev pub IsInBlock : ℕ → ℕ → ℕ → Pixel → Type 0
IsInBlock side column row p = (p.y / side ≡ row) × (p.x / side ≡ column)
