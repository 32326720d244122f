-- A tile that is swept where it stands, in whole rows of cells. Only private functions have these words in their
-- contracts.
use Rattle.std.specs.Prelude.{ℕ, List, slice_set}
use Rattle.grid_core.specs.{declared.bounds.Bounds.Bounds, declared.conn.Conn.Conn, Bounds.no_bounds}
use Rattle.grid_core.specs.{Raster.Raster, Raster.value_at, Tiles.Tiles}
use Rattle.border_queues.specs.{OpenEdges.Sender, OpenEdges.sender_by, TileWork.TileWork, TileWork.work_of}
use Rattle.stroke_lattice.specs.State.{nothing}
use Rattle.core_rules.specs.{Sweeps.hints_of, Work.Core, Work.tiling}
use Rattle.reset_core.specs.Bounding.{FollowChange}
use Rattle.reset_core.specs.Telling.{ImageAndWork, image_and_work, image_on, AreTold, IsGrownAt, grown_core}

-- mask, image and work as a core, whose strokes and serial count for nothing
abbrev pub core_on : Tiles → Conn → List ℕ → List ℕ → List TileWork → Core
core_on tiles conn mask image work = record {
  mask = image_on tiles mask;
  conn = conn;
  side = tiles.side;
  state = nothing;
  image = image_on tiles image;
  tiles = work;
  serial = 0;
}

-- a tile as one that tells others
abbrev pub sender_on : Tiles → Conn → List ℕ → List ℕ → ℕ → List TileWork → Sender
sender_on tiles conn mask image t work =
    sender_by tiles conn (value_at (image_on tiles mask)) (value_at (image_on tiles image)) t
    (work_of work t).generation

-- the bounds follow a change of the image, whichever pixels are neighbours
abbrev pub BoundsFollow : Tiles → List ℕ → List ℕ → List Bounds → List Bounds → Type 0
BoundsFollow tiles before after old new =
    (conn : Conn) → FollowChange tiles conn (image_on tiles before) (image_on tiles after) old new

-- the tile is swept, all its hints are handed over, and the bounds follow: no pixel of the tile lies within its bounds
-- but those that they are widened by then
pub record IsSweptHere (before : Core) (table : List Bounds) (t : ℕ) (after : ImageAndWork) (new : List Bounds) : Type 0
  where
    pub image : Raster
    pub grown : IsGrownAt before t image
    pub told : AreTold (tiling before) (hints_of before (grown_core before t image) t)
        (image_and_work (grown_core before t image)) after
    pub follow : FollowChange (tiling before) before.conn image after.image (slice_set table t no_bounds) new
