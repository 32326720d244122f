-- Which core the parts of a stored one are, and what is true of each stored core.
use Rattle.std.specs.Prelude.{◌≡◌, ℕ, Bool, false, List, length, replicate, None}
use Rattle.grid_core.specs.{declared.conn.Conn.Conn, Raster.Raster, Bounds.no_bounds}
use Rattle.stroke_lattice.specs.State.{State, nothing}
use Rattle.marker_tiles.specs.Kept.{Kept, IsMarkerOf}
use Rattle.core_rules.specs.{Work.Core, Opening.blank, Invariant.IsSound}
use Rattle.border_queues.specs.TileWork.{TileWork, fresh}
use Rattle.tile_generations.specs.CutMasks.{AreTileMasks}
use Rattle.reset_core.specs.{Bounding.AreBoundedOrTold, declared.replica.Core.TheInside.Inside as Parts}
use Rattle.reset_core.specs.{declared.replica.Beginning.Beginning, declared.replica.stored.CoreParts.CoreParts}

-- the core that is stored as these parts
abbrev pub core_of : Parts → Core
core_of parts = record {
  mask = parts.markers.mask;
  conn = parts.conn;
  side = parts.markers.tiling.side;
  state = parts.state;
  image = parts.image;
  tiles = parts.work;
  serial = parts.serial;
}

-- what a core begins with beside its markers: these strokes, this image, and so many tiles without work, of none of
-- which the mask was cut out
abbrev pub with_image : State → Raster → ℕ → ℕ → Beginning
with_image state image count first = record {
  state = state;
  image = image;
  work = replicate count (fresh first);
  bounds = replicate count no_bounds;
  masks = replicate count None;
  marks = replicate count false;
  queue = replicate count false;
}

-- so, with no strokes and an image of zeros of the mask's size
abbrev pub at_first : Raster → ℕ → ℕ → Beginning
at_first mask count first = with_image nothing (blank mask) count first

-- the parts of a core that begins so
abbrev pub begun : Beginning → Conn → Kept → Parts
begun beginning conn markers = record {
  conn = conn;
  state = beginning.state;
  markers = markers;
  image = beginning.image;
  work = beginning.work;
  bounds = beginning.bounds;
  masks = beginning.masks;
  serial = 0;
  marks = beginning.marks;
  queue = beginning.queue;
}

-- the same parts, as they are held without a core
abbrev pub stored_as : CoreParts → Parts
stored_as held = record {
  conn = held.conn;
  state = held.state;
  markers = held.markers;
  image = held.image;
  work = held.work;
  bounds = held.bounds;
  masks = held.masks;
  serial = held.serial;
  marks = held.marks;
  queue = held.queue;
}

-- no tile is in the set
abbrev pub IsEmptySet : List TileWork → List Bool → Type 0
IsEmptySet work set = set ≡ replicate (length work) false

-- the core is sound, an open pair begins within the bounds of a tile or a hint waits for it, the marker is that of the
-- strokes, the masks that jobs share are those of their tiles, and between merges no tile is marked and none waits to
-- be looked at
pub record IsStored (parts : Parts) : Type 0 where
  pub sound : IsSound (core_of parts)
  pub bounded : AreBoundedOrTold (core_of parts) parts.bounds
  pub marks : IsMarkerOf parts.markers.mask parts.state parts.markers.marker
  pub masks : AreTileMasks parts.markers.mask parts.markers.tiling parts.masks
  pub no_marks : IsEmptySet parts.work parts.marks
  pub none_queued : IsEmptySet parts.work parts.queue
