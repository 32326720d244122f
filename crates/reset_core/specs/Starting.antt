-- A core that begins with strokes and tombstones, and what a core shows that was opened, took them and was settled.
use Rattle.std.specs.Prelude.{◌≡◌, ℕ, ◌≤◌, List}
use Rattle.grid_core.specs.{declared.conn.Conn.Conn, Raster.Raster, Raster.IsFilled}
use Rattle.grid_core.specs.Tiles.{IsTiled, IsTileSide, count_of}
use Rattle.stroke_lattice.specs.{State.State, Change.Turnover}
use Rattle.marker_tiles.specs.Kept.{Kept, IsMarkerOf}
use Rattle.tile_generations.specs.Generations.{max_generation}
use Rattle.raster_sweeps.specs.Regrowth.{IsRegrown}
use Rattle.core_rules.specs.{Work.Core, Work.IsQuiet, Opening.opened, Invariant.IsSound, Invariant.HasReconstruction}
use Rattle.core_rules.specs.{Merge.IsMerged, Runs.Entry, Runs.IsSettled}
use Rattle.reset_core.specs.{declared.replica.Beginning.Beginning, Replica.with_image}

-- the core is one of this mask before anything happened, but that it has these strokes and, as its image, the
-- reconstruction of the mask from their marker: it is sound, no work is left, and its side is one that tiles may have
pub record IsBegunWith (mask : Raster) (conn : Conn) (side first : ℕ) (state : State) (core : Core) : Type 0 where
  pub tile_side : IsTileSide side
  pub core_is : core ≡ record (opened mask conn side first) { state = state; image = core.image }
  pub sound : IsSound core
  pub quiet : IsQuiet core
  pub reconstruction : HasReconstruction core

-- the cores show the same: the image of the same strokes on the same mask, cut into the same tiles, each of which is in
-- the same generation and has the same work left; only the serials of their next jobs may differ
pub record ShowAlike (a b : Core) : Type 0 where
  pub mask : a.mask ≡ b.mask
  pub conn : a.conn ≡ b.conn
  pub side : a.side ≡ b.side
  pub state : a.state ≡ b.state
  pub image : a.image ≡ b.image
  pub tiles : a.tiles ≡ b.tiles

-- a core that was opened, took these strokes and was settled shows what one that begins with them shows
abbrev pub BegunIsAsSettled : Type 0
BegunIsAsSettled =
    (mask : Raster) (conn : Conn) (side first : ℕ) (state : State) (turnover : Turnover) (log : List Entry)
    (merged settled begun : Core)
    → first ≤ max_generation
    → IsMerged (opened mask conn side first) state turnover merged
    → IsSettled merged log settled
    → IsBegunWith mask conn side first state begun
    → ShowAlike settled begun

-- what a core begins with beside these markers, which are those of the strokes: the image has grown from the marker,
-- and no tile has work. Only private functions have it in their contracts
pub record IsBeginningOf (conn : Conn) (first : ℕ) (state : State) (markers : Kept) (beginning : Beginning)
    : Type 0 where
  pub filled : IsFilled markers.mask
  pub tiled : IsTiled markers.tiling
  pub width : markers.tiling.width ≡ markers.mask.width
  pub height : markers.tiling.height ≡ markers.mask.height
  pub marks : IsMarkerOf markers.mask state markers.marker
  pub grown : IsRegrown conn markers.mask markers.marker beginning.image
  pub rest : beginning ≡ with_image state beginning.image (count_of markers.tiling) first
