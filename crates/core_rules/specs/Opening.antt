-- A core as it is opened.
use Rattle.std.specs.Prelude.{ℕ, length, replicate}
use Rattle.grid_core.specs.{declared.conn.Conn.Conn, Raster.Raster, Tiles.Tiles, Tiles.count_of}
use Rattle.stroke_lattice.specs.State.{nothing}
use Rattle.border_queues.specs.TileWork.{fresh}
use Rattle.core_rules.specs.Work.{Core}

-- an image of zeros, of the mask's size
abbrev pub blank : Raster → Raster
blank mask = record { width = mask.width; height = mask.height; cells = replicate (length mask.cells) 0 }

-- the core of a mask before anything happened, with tiles of this side and this first generation: no strokes, an image
-- of zeros, and no work
abbrev pub opened : Raster → Conn → ℕ → ℕ → Core
opened mask conn side first =
    let tiling : Tiles = record { width = mask.width; height = mask.height; side = side } in
    record {
      mask = mask;
      conn = conn;
      side = side;
      state = nothing;
      image = blank mask;
      tiles = replicate (count_of tiling) (fresh first);
      serial = 0;
    }
