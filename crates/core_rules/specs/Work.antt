-- One replica's core as plain data: mask, strokes and image, and the work that is left at each tile.
use Rattle.std.specs.Prelude.{ℕ, ◌<◌, List, length, slice_set}
use Rattle.grid_core.specs.{declared.conn.Conn.Conn, declared.pixel.Pixel.Pixel, Raster.Raster, Raster.value_at}
use Rattle.grid_core.specs.{Path.Domain, Path.domain_of, Tiles.Tiles}
use Rattle.stroke_lattice.specs.State.{State}
use Rattle.border_queues.specs.TileWork.{TileWork, work_of, IsIdle}

-- a core: the mask, which pixels are neighbours, the side of the tiles, the strokes, the image so far, the work at
-- each tile, and the serial of the next job
pub record Core : Type 0 where
  pub mask : Raster
  pub conn : Conn
  pub side : ℕ
  pub state : State
  pub image : Raster
  pub tiles : List TileWork
  pub serial : ℕ

-- where the images of the core are defined
abbrev pub domain : Core → Domain
domain core = domain_of core.mask core.conn

-- how the image is cut into tiles
abbrev pub tiling : Core → Tiles
tiling core = record { width = core.mask.width; height = core.mask.height; side = core.side }

-- the mask and the image at each pixel
abbrev pub mask_at : Core → Pixel → ℕ
mask_at core = value_at core.mask

abbrev pub image_at : Core → Pixel → ℕ
image_at core = value_at core.image

-- the core has such a tile
abbrev pub IsTile : Core → ℕ → Type 0
IsTile core t = t < length core.tiles

-- the work that is left at a tile
abbrev pub work_at : Core → ℕ → TileWork
work_at core t = work_of core.tiles t

-- the core with other work at one tile
abbrev pub with_work : Core → ℕ → TileWork → Core
with_work core t work = record core { tiles = slice_set core.tiles t work }

-- no work is left at any tile
abbrev pub IsQuiet : Core → Type 0
IsQuiet core = (t : ℕ) → IsTile core t → IsIdle (work_at core t)
