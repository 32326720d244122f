-- Images cut into square tiles, which are numbered row by row from 0.
use Rattle.std.specs.Prelude.{◌≢◌, ℕ, ◌+◌, ◌-◌, ◌*◌, ◌/◌, ◌%◌, ◌≤◌, min}
use Rattle.std.specs.Int.{div_ceil}
use Rattle.grid_core.specs.{declared.pixel.Pixel.Pixel, declared.rect.Rect.Rect, Raster.IsImageSize, Neighbours.apart}

-- an image's width and height, and the side of its tiles
pub record Tiles : Type 0 where
  pub width : ℕ
  pub height : ℕ
  pub side : ℕ

-- the least and the greatest side of a tile
abbrev pub min_tile_side : ℕ
min_tile_side = 8

abbrev pub max_tile_side : ℕ
max_tile_side = 256

-- the sides that a tile may have
pub record IsTileSide (side : ℕ) : Type 0 where
  pub at_least : min_tile_side ≤ side
  pub at_most : side ≤ max_tile_side

-- an image may have this width and height, and a tile this side
pub record IsTiled (t : Tiles) : Type 0 where
  pub size : IsImageSize t.width t.height
  pub tile_side : IsTileSide t.side

-- how many tiles stand side by side, and how many one below another; the last ones may be cut
abbrev pub columns_of : Tiles → ℕ
columns_of t = div_ceil t.width t.side

abbrev pub rows_of : Tiles → ℕ
rows_of t = div_ceil t.height t.side

-- how many tiles there are
abbrev pub count_of : Tiles → ℕ
count_of t = columns_of t * rows_of t

-- in which column and in which row of tiles a tile stands
abbrev pub column_of : Tiles → ℕ → ℕ
column_of t tile = tile % columns_of t

abbrev pub row_of : Tiles → ℕ → ℕ
row_of t tile = tile / columns_of t

-- the tile that a pixel lies in
abbrev pub tile_of : Tiles → Pixel → ℕ
tile_of t p = (p.y / t.side) * columns_of t + p.x / t.side

-- the rectangle of a tile that begins at this pixel, cut at the right and lower edges of the image
abbrev pub rect_from : Tiles → ℕ → ℕ → Rect
rect_from t x y = record { x = x; y = y; w = min t.side (t.width - x); h = min t.side (t.height - y) }

-- the rectangle of a tile
abbrev pub rect_of : Tiles → ℕ → Rect
rect_of t tile = rect_from t (column_of t tile * t.side) (row_of t tile * t.side)

-- two tiles share an edge or a corner: they differ, and their columns and rows of tiles are at most 1 apart
pub record AreTouching (t : Tiles) (a b : ℕ) : Type 0 where
  pub other : a ≢ b
  pub columns : apart (column_of t a) (column_of t b) ≤ 1
  pub rows : apart (row_of t a) (row_of t b) ≤ 1
