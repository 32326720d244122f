-- The masks of tiles, each as an image by itself.
use Rattle.std.specs.Prelude.{◌≡◌, ℕ, List, length, Option, Some, None, slice_index_or}
use Rattle.std.specs.{Arc.arc_value, declared.sync.Arc.Arc}
use Rattle.grid_core.specs.{Raster.Raster, Rects.IsPart, Tiles.Tiles, Tiles.count_of, Tiles.rect_of}

-- the mask of a tile, where it was cut out
abbrev pub cut_mask : {Z : Type 0} → Option (Arc Raster Z) → Option Raster
cut_mask None = None
cut_mask (Some mask) = Some (arc_value mask)

-- there is a place for each tile of the tiling, and each mask that was cut out is the part of the whole mask in its
-- tile
pub record AreTileMasks (whole : Raster) (tiling : Tiles) (masks : List (Option Raster)) : Type 0 where
  pub width : whole.width ≡ tiling.width
  pub height : whole.height ≡ tiling.height
  pub count : length masks ≡ count_of tiling
  pub cut : (t : ℕ) (mask : Raster) → slice_index_or masks t None ≡ Some mask → IsPart (rect_of tiling t) whole mask
