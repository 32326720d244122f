-- An image that is kept as rows and, over them, parts of tiles: which image it is.
use Rattle.std.specs.Prelude.{◌≡◌, ◌≢◌, ℕ, ◌*◌, ◌/◌, ◌%◌, Bool, false, if◌then◌else◌, List, length, map}
use Rattle.std.specs.Prelude.{Option, Some, None, slice_index_or}
use Rattle.std.specs.List.{range_with_len}
use Rattle.grid_core.specs.{declared.pixel.Pixel.Pixel, declared.rect.Rect.Rect}
use Rattle.grid_core.specs.Raster.{Raster, IsInside, IsSized, value_at}
use Rattle.grid_core.specs.Tiles.{Tiles, IsTiled, count_of, rect_of, tile_of}
use Rattle.tile_generations.specs.CutMasks.{AreTileMasks}
use Rattle.tile_work.specs.TileSet.{Has}
use Rattle.tiled_image.specs.Shown.{value_in}

-- an image, and how it is cut into tiles
pub record TiledRaster : Type 0 where
  pub tiling : Tiles
  pub image : Raster

abbrev pub tiled_raster : Tiles → Raster → TiledRaster
tiled_raster tiling image = record { tiling = tiling; image = image }

-- the image has the width and height that the tiling is of
pub record IsOfTiling (tiling : Tiles) (image : Raster) : Type 0 where
  pub tiled : IsTiled tiling
  pub width : image.width ≡ tiling.width
  pub height : image.height ≡ tiling.height
  pub sized : IsSized image

-- ---- images made from their values

-- the pixel of a place among the cells of an image of this width
abbrev pub pixel_of : ℕ → ℕ → Pixel
pixel_of width place = record { x = place % width; y = place / width }

-- the image of this width and height that has these values at its pixels
abbrev pub raster_of : ℕ → ℕ → (Pixel → ℕ) → Raster
raster_of width height value = record {
  width = width;
  height = height;
  cells = map (λ place. value (pixel_of width place)) (range_with_len 0 (width * height));
}

-- ---- rows, and over them parts of tiles

-- the value at a pixel, of the part that shows the rectangle; 0 where there is no part
abbrev pub part_value : Rect → Option Raster → Pixel → ℕ
part_value rect None p = 0
part_value rect (Some part) p = value_in rect part p

-- the value at a pixel: of its tile's part where that is newer than the rows, else of the rows
abbrev pub kept_value : Tiles → Raster → List (Option Raster) → List Bool → Pixel → ℕ
kept_value tiling rows parts newer p =
    if slice_index_or newer (tile_of tiling p) false
    then part_value (rect_of tiling (tile_of tiling p)) (slice_index_or parts (tile_of tiling p) None) p
    else value_at rows p

-- the image that is kept as these rows and parts
abbrev pub image_of : Tiles → Raster → List (Option Raster) → List Bool → Raster
image_of tiling rows parts newer = raster_of rows.width rows.height (kept_value tiling rows parts newer)

-- the whole image is kept as these rows and parts: each part that is there is the image's in its tile, each newer tile
-- has one, and in every other tile the rows have the image's values
pub record IsKeptAs (whole : Raster) (tiling : Tiles) (rows : Raster) (parts : List (Option Raster)) (newer : List Bool)
    : Type 0 where
  pub of_tiling : IsOfTiling tiling whole
  pub rows_of_tiling : IsOfTiling tiling rows
  pub are_cut : AreTileMasks whole tiling parts
  pub count : length newer ≡ count_of tiling
  pub has_part : (t : ℕ) → Has newer t → slice_index_or parts t None ≢ None
  pub current : (p : Pixel) → IsInside tiling.width tiling.height p → (Has newer (tile_of tiling p) → ⊥)
      → value_at rows p ≡ value_at whole p

-- some image is kept so
abbrev pub IsKept : Tiles → Raster → List (Option Raster) → List Bool → Type 0
IsKept tiling rows parts newer = IsKeptAs (image_of tiling rows parts newer) tiling rows parts newer

-- the rows have the whole image's values in this tile and their old ones in the others, and the image is kept still
pub record IsTileWritten (whole : Raster) (tiling : Tiles) (t : ℕ) (parts : List (Option Raster)) (newer : List Bool)
    (old new : Raster) : Type 0 where
  pub kept : IsKeptAs whole tiling new parts newer
  pub here : (p : Pixel) → IsInside tiling.width tiling.height p → tile_of tiling p ≡ t
      → value_at new p ≡ value_at whole p
  pub others : (p : Pixel) → IsInside tiling.width tiling.height p → (tile_of tiling p ≡ t → ⊥)
      → value_at new p ≡ value_at old p
