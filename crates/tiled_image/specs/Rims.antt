-- The rims of the tiles of an image: of each tile its first and its last row, and its first and its last column, kept
-- apart from the image in one list.
use Rattle.std.specs.Prelude.{◌≡◌, ℕ, ◌+◌, ◌-◌, ◌*◌, ◌<◌, ◌≤◌, List, length, slice_index}
use Rattle.grid_core.specs.{declared.pixel.Pixel.Pixel, declared.rect.Rect.Rect}
use Rattle.grid_core.specs.{Raster.Raster, Raster.index_of, Raster.value_at, Rects.IsInRect}
use Rattle.grid_core.specs.Tiles.{Tiles, count_of, rect_of}
use Rattle.tiled_image.specs.{Shown.place_in, declared.rims.Edge.Edge}
use Rattle.tiled_image.specs.declared.rims.Edge.TheVariants as edges

-- the row or the column of a rectangle at one of its edges
abbrev pub strip_at : Edge → Rect → Rect
strip_at edges.Top rect = record { x = rect.x; y = rect.y; w = rect.w; h = 1 }
strip_at edges.Bottom rect = record { x = rect.x; y = rect.y + rect.h - 1; w = rect.w; h = 1 }
strip_at edges.Left rect = record { x = rect.x; y = rect.y; w = 1; h = rect.h }
strip_at edges.Right rect = record { x = rect.x + rect.w - 1; y = rect.y; w = 1; h = rect.h }

-- ---- where they stand

-- in which order the strips of a tile stand
abbrev pub rank_of : Edge → ℕ
rank_of edges.Top = 0
rank_of edges.Bottom = 1
rank_of edges.Left = 2
rank_of edges.Right = 3

-- the place of a strip among those of all tiles
abbrev pub order_of : ℕ → Edge → ℕ
order_of tile edge = tile * 4 + rank_of edge

-- where the values of a strip begin: each has room for as many as a tile has at most
abbrev pub start_of : Tiles → ℕ → Edge → ℕ
start_of tiling tile edge = order_of tile edge * tiling.side

-- how many values there are
abbrev pub room_of : Tiles → ℕ
room_of tiling = count_of tiling * 4 * tiling.side

-- the strip of a tile at one of its edges
abbrev pub strip_of : Tiles → ℕ → Edge → Rect
strip_of tiling tile edge = strip_at edge (rect_of tiling tile)

-- where the value of a pixel of that strip stands
abbrev pub place_of : Tiles → ℕ → Edge → Pixel → ℕ
place_of tiling tile edge p =
    start_of tiling tile edge + index_of (strip_of tiling tile edge).w (place_in (strip_of tiling tile edge) p)

-- the value at a pixel of that strip
abbrev pub rim_value : Tiles → List ℕ → ℕ → Edge → Pixel → ℕ
rim_value tiling rims tile edge p = slice_index rims (place_of tiling tile edge p)

-- ---- what is true of them

-- the tile's rim has the image's values
abbrev pub IsRimOf : Tiles → Raster → List ℕ → ℕ → Type 0
IsRimOf tiling image rims tile =
    (edge : Edge) (p : Pixel) → IsInRect (strip_of tiling tile edge) p
    → rim_value tiling rims tile edge p ≡ value_at image p

-- the rims of all tiles have the image's values
pub record AreRimsOf (tiling : Tiles) (image : Raster) (rims : List ℕ) : Type 0 where
  pub count : length rims ≡ room_of tiling
  pub values : (t : ℕ) → t < count_of tiling → IsRimOf tiling image rims t

-- ---- what becomes of them

-- the tile's rim has the old values here
abbrev pub IsSameRim : Tiles → ℕ → List ℕ → List ℕ → Type 0
IsSameRim tiling tile old new =
    (edge : Edge) (p : Pixel) → IsInRect (strip_of tiling tile edge) p
    → rim_value tiling new tile edge p ≡ rim_value tiling old tile edge p

-- in the strip of a tile at an edge, the pixels of which this holds have these values, and everything else is as it was
pub record IsStripChanged (tiling : Tiles) (tile : ℕ) (edge : Edge) (P : Pixel → Type 0) (value : Pixel → ℕ)
    (old new : List ℕ) : Type 0 where
  pub count : length new ≡ length old
  pub here : (p : Pixel) → IsInRect (strip_of tiling tile edge) p → P p → rim_value tiling new tile edge p ≡ value p
  pub kept : (p : Pixel) → IsInRect (strip_of tiling tile edge) p → (P p → ⊥)
      → rim_value tiling new tile edge p ≡ rim_value tiling old tile edge p
  pub ahead : (i : ℕ) → i < start_of tiling tile edge → slice_index new i ≡ slice_index old i
  pub behind : (i : ℕ) → start_of tiling tile edge + tiling.side ≤ i → slice_index new i ≡ slice_index old i

-- in the rim of a tile, the pixels of which this holds have these values, and everything else is as it was
pub record IsRimChanged (tiling : Tiles) (tile : ℕ) (P : Pixel → Type 0) (value : Pixel → ℕ) (old new : List ℕ)
    : Type 0 where
  pub count : length new ≡ length old
  pub here : (edge : Edge) (p : Pixel) → IsInRect (strip_of tiling tile edge) p → P p
      → rim_value tiling new tile edge p ≡ value p
  pub kept : (edge : Edge) (p : Pixel) → IsInRect (strip_of tiling tile edge) p → (P p → ⊥)
      → rim_value tiling new tile edge p ≡ rim_value tiling old tile edge p
  pub others : (t : ℕ) → t < count_of tiling → (t ≡ tile → ⊥) → IsSameRim tiling t old new

-- the rims of the tiles of which this holds have the image's values, and the others the old ones
pub record AreTaken (P : ℕ → Type 0) (tiling : Tiles) (image : Raster) (old new : List ℕ) : Type 0 where
  pub count : length new ≡ length old
  pub taken : (t : ℕ) → t < count_of tiling → P t → IsRimOf tiling image new t
  pub others : (t : ℕ) → t < count_of tiling → (P t → ⊥) → IsSameRim tiling t old new

-- ---- the pixels around a tile

-- two rectangles are tiles of one image, and not the same
pub record StandApart (rect own : Rect) : Type 0 where
  pub above : rect.y < own.y → rect.y + rect.h ≤ own.y
  pub below : own.y < rect.y → own.y + own.h ≤ rect.y
  pub left : rect.x < own.x → rect.x + rect.w ≤ own.x
  pub right : own.x < rect.x → own.x + own.w ≤ rect.x
  pub other : rect.y ≡ own.y → rect.x ≡ own.x → ⊥

-- the strip of the first rectangle at this edge has each of its pixels that lie around the other one
abbrev pub IsEdgeBeside : Rect → Rect → Edge → Type 0
IsEdgeBeside rect own edge =
    (p : Pixel) → IsInRect rect p → own.x ≤ p.x + 1 → p.x ≤ own.x + own.w → own.y ≤ p.y + 1 → p.y ≤ own.y + own.h
    → IsInRect (strip_at edge rect) p
