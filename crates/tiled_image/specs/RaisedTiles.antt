-- An image over which the rims of its tiles are laid: at the pixels on the rim of a tile it has the values of the rims,
-- and everywhere else those of the image below.
use Rattle.std.specs.Prelude.{◌≡◌, ℕ, zero, suc, ◌+◌, ◌-◌, List, Option, Some, None, slice_index_or, slice_set, Bool}
use Rattle.grid_core.specs.{declared.pixel.Pixel.Pixel, declared.rect.Rect.Rect, Rects.IsInRect}
use Rattle.grid_core.specs.Raster.{Raster, IsInside, IsOfSize, value_at}
use Rattle.grid_core.specs.Tiles.{Tiles, rect_of, tile_of}
use Rattle.tiled_image.specs.declared.rims.Edge.{Edge}
use Rattle.tiled_image.specs.declared.rims.Edge.TheVariants as edges
use Rattle.tiled_image.specs.Rims.{AreRimsOf, rim_value, strip_at, strip_of}
use Rattle.tiled_image.specs.{Shown.value_in, TiledImage.IsOfTiling, TiledImage.image_of, TiledImage.raster_of}

-- ---- which pixels lie on a rim

-- the pixel lies on no edge of the rectangle
abbrev pub IsInner : Rect → Pixel → Type 0
IsInner rect p = (edge : Edge) → IsInRect (strip_at edge rect) p → ⊥

-- the pixel lies on no edge of the rectangle but this one
abbrev pub LiesOnOne : Rect → Edge → Pixel → Type 0
LiesOnOne rect edge p = (other : Edge) → IsInRect (strip_at other rect) p → other ≡ edge

-- the pixel lies on this edge of the rectangle, or on none
abbrev pub IsEdgeAt : Rect → Pixel → Option Edge → Type 0
IsEdgeAt rect p None = IsInner rect p
IsEdgeAt rect p (Some edge) = IsInRect (strip_at edge rect) p

-- the edge of a pixel that is so far from the first and the last row, and from the first and the last column
abbrev pub edge_by : ℕ → ℕ → ℕ → ℕ → Option Edge
edge_by zero under left right = Some edges.Top
edge_by (suc above) zero left right = Some edges.Bottom
edge_by (suc above) (suc under) zero right = Some edges.Left
edge_by (suc above) (suc under) (suc left) zero = Some edges.Right
edge_by (suc above) (suc under) (suc left) (suc right) = None

-- an edge of the rectangle on which a pixel of it lies, if there is one
abbrev pub edge_at : Rect → Pixel → Option Edge
edge_at rect p =
    edge_by (p.y - rect.y) (rect.y + rect.h - 1 - p.y) (p.x - rect.x) (rect.x + rect.w - 1 - p.x)

-- ---- which image is shown

-- the value at a pixel of a tile that lies on this edge of it, or on none
abbrev pub value_on : Tiles → Raster → List ℕ → ℕ → Pixel → Option Edge → ℕ
value_on tiling below rims tile p None = value_at below p
value_on tiling below rims tile p (Some edge) = rim_value tiling rims tile edge p

-- the image over which the rims are laid
abbrev pub shown_of : Tiles → Raster → List ℕ → Raster
shown_of tiling below rims =
    raster_of below.width below.height (λ p. value_on tiling below rims (tile_of tiling p) p
    (edge_at (rect_of tiling (tile_of tiling p)) p))

-- the whole image, of which the one below is kept as rows and parts
abbrev pub whole_of : Tiles → Raster → List (Option Raster) → List Bool → List ℕ → Raster
whole_of tiling rows parts newer rims = shown_of tiling (image_of tiling rows parts newer) rims

-- the rims are the whole image's, and the image below differs from it at most on the rims of the tiles of which this
-- holds
pub record IsShownBut (P : ℕ → Type 0) (whole : Raster) (tiling : Tiles) (below : Raster) (rims : List ℕ) : Type 0 where
  pub of_tiling : IsOfTiling tiling whole
  pub below_of_tiling : IsOfTiling tiling below
  pub rims_are : AreRimsOf tiling whole rims
  pub inner : (p : Pixel) → IsInside tiling.width tiling.height p → IsInner (rect_of tiling (tile_of tiling p)) p
      → value_at below p ≡ value_at whole p
  pub settled : (p : Pixel) → IsInside tiling.width tiling.height p → (P (tile_of tiling p) → ⊥)
      → value_at below p ≡ value_at whole p

-- the rims are the whole image's, and in this tile the image below differs from it at most on the rim
pub record IsLaidIn (tile : ℕ) (whole : Raster) (tiling : Tiles) (below : Raster) (rims : List ℕ) : Type 0 where
  pub below_of_tiling : IsOfTiling tiling below
  pub rims_are : AreRimsOf tiling whole rims
  pub inner : (p : Pixel) → IsInside tiling.width tiling.height p → tile_of tiling p ≡ tile
      → IsInner (rect_of tiling tile) p → value_at below p ≡ value_at whole p

-- ---- rims that are written

-- an image that shows a rectangle has the whole one's values in the strip, and its old ones beyond it
pub record IsStripWritten (strip : Rect) (whole : Raster) (shown : Rect) (old new : Raster) : Type 0 where
  pub inside : (p : Pixel) → IsInRect strip p → value_in shown new p ≡ value_at whole p
  pub beyond : (p : Pixel) → IsInRect shown p → (IsInRect strip p → ⊥) → value_in shown new p ≡ value_in shown old p

-- so with the rim of a tile
pub record IsRimWritten (tiling : Tiles) (tile : ℕ) (whole : Raster) (shown : Rect) (old new : Raster) : Type 0 where
  pub rim : (edge : Edge) (p : Pixel) → IsInRect (strip_of tiling tile edge) p → value_in shown new p ≡ value_at whole p
  pub beyond : (p : Pixel) → IsInRect shown p → IsInner (rect_of tiling tile) p
      → value_in shown new p ≡ value_in shown old p

-- the rim is written into the tile's part
pub record IsRimIn (tiling : Tiles) (tile : ℕ) (rims : List ℕ) (old new : Raster) : Type 0 where
  pub size : IsOfSize old new
  pub written : (whole : Raster) → AreRimsOf tiling whole rims
      → IsRimWritten tiling tile whole (rect_of tiling tile) old new

-- the tile has a part, the rim is written into it, and nothing else changed
pub record IsPartWritten (tiling : Tiles) (tile : ℕ) (rims : List ℕ) (old new : List (Option Raster)) : Type 0 where
  pub part : Raster
  pub written : Raster
  pub was : slice_index_or old tile None ≡ Some part
  pub is : new ≡ slice_set old tile (Some written)
  pub rim : IsRimIn tiling tile rims part written
