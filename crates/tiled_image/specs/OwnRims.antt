-- The rims of some tiles that stand one behind another, in a list of their own.
use Rattle.std.specs.Prelude.{◌≡◌, ℕ, ◌+◌, ◌*◌, ◌<◌, ◌≤◌, List, length, slice_index}
use Rattle.grid_core.specs.{declared.pixel.Pixel.Pixel, Raster.Raster, Raster.index_of, Raster.value_at}
use Rattle.grid_core.specs.{Rects.IsInRect, Tiles.Tiles, Tiles.count_of}
use Rattle.tiled_image.specs.{Shown.place_in, declared.rims.Edge.Edge, Rims.rank_of, Rims.strip_of}

-- where the value of a pixel of a tile's strip stands among the values of its rim
abbrev pub own_place : Tiles → ℕ → Edge → Pixel → ℕ
own_place tiling tile edge p =
    rank_of edge * tiling.side + index_of (strip_of tiling tile edge).w (place_in (strip_of tiling tile edge) p)

-- ---- one tile

-- these are the values of its rim in the image
abbrev pub IsOwnRimOf : Tiles → Raster → ℕ → List ℕ → Type 0
IsOwnRimOf tiling image tile own =
    (edge : Edge) (p : Pixel) → IsInRect (strip_of tiling tile edge) p
    → slice_index own (own_place tiling tile edge p) ≡ value_at image p

-- the values of the strip at this edge are the image's, and the others are as they were
pub record IsEdgeTaken (tiling : Tiles) (image : Raster) (tile : ℕ) (edge : Edge) (old new : List ℕ) : Type 0 where
  pub count : length new ≡ length old
  pub here : (p : Pixel) → IsInRect (strip_of tiling tile edge) p
      → slice_index new (own_place tiling tile edge p) ≡ value_at image p
  pub ahead : (i : ℕ) → i < rank_of edge * tiling.side → slice_index new i ≡ slice_index old i
  pub behind : (i : ℕ) → rank_of edge * tiling.side + tiling.side ≤ i → slice_index new i ≡ slice_index old i

-- ---- some tiles

-- there are so many tiles from the first one on, and as many values as their rims have
pub record CanTakePart (tiling : Tiles) (image : Raster) (tiles first count room : ℕ) : Type 0 where
  pub all : tiles ≡ count_of tiling
  pub within : first + count ≤ count_of tiling
  pub room_is : room ≡ count * 4 * tiling.side
  pub width : image.width ≡ tiling.width
  pub height : image.height ≡ tiling.height

-- of so many tiles from the first one on, the rims of those of which this holds have the image's values, and the others
-- the old ones
pub record ArePartTaken (P : ℕ → Type 0) (tiling : Tiles) (image : Raster) (first count : ℕ) (old new : List ℕ)
    : Type 0 where
  pub long : length new ≡ length old
  pub taken : (n : ℕ) → n < count → P (first + n) → (edge : Edge) (p : Pixel)
      → IsInRect (strip_of tiling (first + n) edge) p
      → slice_index new (n * 4 * tiling.side + own_place tiling (first + n) edge p) ≡ value_at image p
  pub others : (n : ℕ) → n < count → (P (first + n) → ⊥) → (k : ℕ) → k < 4 * tiling.side
      → slice_index new (n * 4 * tiling.side + k) ≡ slice_index old (n * 4 * tiling.side + k)
