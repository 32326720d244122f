-- All that an image in tiles keeps.
use Rattle.std.specs.Prelude.{◌≡◌, ℕ, Bool, List, Option, length}
use Rattle.grid_core.specs.{Raster.Raster, Tiles.Tiles, Tiles.count_of}
use Rattle.tile_work.specs.TileSet.{Has}
use Rattle.tiled_image.specs.SharedCopies.{AreCopies, Copies}
use Rattle.tiled_image.specs.{RaisedTiles.IsShownBut, RaisedTiles.whole_of, TiledImage.IsKept, TiledImage.image_of}

-- some image is kept as rows and parts, the rims are laid over it, which differ from it in the raised tiles alone, and
-- these are copies of the whole image then
pub record IsKeptWithAll (tiling : Tiles) (rows : Raster) (parts : List (Option Raster)) (newer : List Bool)
    (copies : Copies) (raised : List Bool) (rims : List ℕ) : Type 0 where
  pub kept : IsKept tiling rows parts newer
  pub count : length raised ≡ count_of tiling
  pub shown : IsShownBut (Has raised) (whole_of tiling rows parts newer rims) tiling
      (image_of tiling rows parts newer) rims
  pub copies_are : AreCopies tiling (whole_of tiling rows parts newer rims) copies
