-- Which core the parts of a stored tiled core are, and what is true of each: what is true of a core with its image in
-- rows; image and marker are cut into the same tiles, and what is beside jobs is counted for each of them; there is
-- room for a tile and the pixels around it, once for the image and once for the mask; the rims of the mask are kept;
-- and so are copies of the strokes, with what was merged since.
use Rattle.std.specs.Prelude.{◌≡◌, ◌+◌, ◌*◌, vec_len}
use Rattle.grid_core.specs.{Raster.Raster, Tiles.Tiles, Tiles.count_of}
use Rattle.core_rules.specs.Work.{Core}
use Rattle.reset_core.specs.declared.replica.Core.TheInside.{Inside as Parts}
use Rattle.reset_core.specs.Replica as replica
use Rattle.tiled_image.specs.Rims.{AreRimsOf}
use Rattle.tiled_core.specs.declared.replica.TiledCore.TheInside.{Inside as TiledParts}
use Rattle.tiled_core.specs.declared.replica.converting.Beside.{Beside}
use Rattle.tiled_core.specs.SharedStates.{AreStates}

-- the parts of the core with its image in rows
abbrev pub parts_of : TiledParts → Parts
parts_of tiled = record {
  conn = tiled.conn;
  state = tiled.state;
  markers = tiled.markers;
  image = tiled.image.image;
  work = tiled.work;
  bounds = tiled.bounds;
  masks = tiled.masks;
  serial = tiled.serial;
  marks = tiled.marks;
  queue = tiled.queue;
}

-- the core that is stored as these parts
abbrev pub core_of : TiledParts → Core
core_of tiled = replica.core_of (parts_of tiled)

pub record IsStored (tiled : TiledParts) : Type 0 where
  pub stored : replica.IsStored (parts_of tiled)
  pub tiling : tiled.image.tiling ≡ tiled.markers.tiling
  pub beside : tiled.beside ≡ count_of tiled.markers.tiling
  pub room : vec_len tiled.ring ≡ (tiled.markers.tiling.side + 2) * (tiled.markers.tiling.side + 2)
  pub mask_rims : AreRimsOf tiled.markers.tiling tiled.markers.mask tiled.mask_rims
  pub limits_room : vec_len tiled.limits ≡ (tiled.markers.tiling.side + 2) * (tiled.markers.tiling.side + 2)
  pub states : AreStates tiled.state tiled.states

-- what is kept besides, before there is a tiled core, for a mask that is cut so
pub record IsBeside (tiling : Tiles) (mask : Raster) (beside : Beside) : Type 0 where
  pub jobs : beside.jobs ≡ count_of tiling
  pub ring : vec_len beside.ring ≡ (tiling.side + 2) * (tiling.side + 2)
  pub mask_rims : AreRimsOf tiling mask beside.mask_rims
  pub limits : vec_len beside.limits ≡ (tiling.side + 2) * (tiling.side + 2)
