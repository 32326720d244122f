-- What a merge has done to the parts of a core, one call after the other.
use Rattle.std.specs.Prelude.{◌≡◌, ◌<◌, ℕ, Bool, false, List, length, replicate}
use Rattle.grid_core.specs.{Raster.Raster, Tiles.Tiles, Tiles.count_of}
use Rattle.stroke_lattice.specs.State.{State, StateFits, AreCompatible, IsJoin}
use Rattle.stroke_lattice.specs.Change.{Turnover, IsChange}
use Rattle.marker_tiles.specs.Kept.{Kept, HasGrown, IsMarkerOf}
use Rattle.tile_generations.specs.Generations.{max_generation}
use Rattle.core_rules.specs.Work.{Core, tiling, work_at}
use Rattle.border_queues.specs.{OpenEdges.IsOnTiling, TileWork.TileWork, TileWork.work_of}
use Rattle.tile_work.specs.{Marks.AreHits, TileSet.Has}
use Rattle.tile_work.specs.Renewing.{AreMarkedReset, IsRaisedByTags, IsLowBeyond}
use Rattle.reset_core.specs.{Bounding.FollowResets, declared.replica.Core.TheInside.Inside as Parts, Replica.core_of}

-- the delta fits the core, and its hits are marked
pub record IsMarked (core : Core) (delta : State) (marks : List Bool) : Type 0 where
  pub fits : StateFits core.mask.width core.mask.height delta
  pub compatible : AreCompatible core.state delta
  pub count : length marks ≡ count_of (tiling core)
  pub hits : AreHits (tiling core) core.image core.conn core.state delta marks

-- a marked tile has spent its generations
abbrev pub HasSpentMark : Core → List Bool → Type 0
HasSpentMark core marks = (t : ℕ) × Has marks t × ((work_at core t).generation ≡ max_generation)

-- the strokes are joined, and the marker is theirs
pub record IsGrown (before : Core) (delta : State) (turnover : Turnover) (state : State) (marker : Raster)
    : Type 0 where
  pub join : IsJoin before.state delta state
  pub change : IsChange before.state state turnover
  pub marker_is : IsMarkerOf before.mask state marker

-- each tile has work, and a mark or none, and no marked tile has spent its generations
pub record AreUnspent (tiles : Tiles) (marks : List Bool) (work : List TileWork) : Type 0 where
  pub works : length work ≡ count_of tiles
  pub marked : length marks ≡ count_of tiles
  pub unspent : (t : ℕ) → Has marks t → (work_of work t).generation < max_generation

-- the marker is that of the strokes, of the same mask and in the same tiles
pub record IsMarkerRenewed (old : Kept) (state : State) (new : Kept) : Type 0 where
  pub mask : new.mask ≡ old.mask
  pub tiling : new.tiling ≡ old.tiling
  pub marker : IsMarkerOf new.mask state new.marker

-- the marked tiles are reset, and then the image is raised where a stroke that was born lies
pub record IsImageRenewed (tiles : Tiles) (marks : List Bool) (turnover : Turnover) (state : State)
    (marker old new : Raster) (work after : List TileWork) : Type 0 where
  pub middle : Raster
  pub between : List TileWork
  pub reset : AreMarkedReset tiles marks marker old middle work between
  pub raised : IsRaisedByTags tiles turnover.born state marker middle new between after

-- where no stroke was born, the marker of the strokes is nowhere above the image
abbrev pub IsLowBeyondBirths : Raster → State → Turnover → Raster → Type 0
IsLowBeyondBirths mask state change image =
    (marker : Raster) → IsMarkerOf mask state marker → IsLowBeyond state change.born marker image

-- the strokes fit the image and are those after the change, the marker is that of the strokes before, image, marks and
-- work are of its tiles, and the image is high enough beside the strokes that were born
pub record CanRenew (markers : Kept) (marks : List Bool) (image : Raster) (work : List TileWork) (state : State)
    (change : Turnover) : Type 0 where
  pub fits : StateFits markers.mask.width markers.mask.height state
  pub known : HasGrown markers.mask markers.marker state change
  pub on_tiling : IsOnTiling markers.tiling image
  pub unspent : AreUnspent markers.tiling marks work
  pub low : IsLowBeyondBirths markers.mask state change image

-- marker, image and work are those of the strokes, and no mark is left
pub record AreRenewed (old : Kept) (marks : List Bool) (image : Raster) (work : List TileWork) (state : State)
    (change : Turnover) (new : Kept) (marks_after : List Bool) (image_after : Raster) (work_after : List TileWork)
    : Type 0 where
  pub marker : IsMarkerRenewed old state new
  pub marks_are : marks_after ≡ replicate (length marks) false
  pub image_is : IsImageRenewed old.tiling marks change state new.marker image image_after work work_after

-- the parts that are stored before and after: the hits of the delta were marked and none of them had spent its
-- generations, the strokes were joined, marker and image were renewed, the bounds followed, and the marks were cleared
pub record IsRenewed (before : Parts) (delta : State) (turnover : Turnover) (after : Parts) : Type 0 where
  pub marks : List Bool
  pub marked : IsMarked (core_of before) delta marks
  pub none_spent : HasSpentMark (core_of before) marks → ⊥
  pub grown : IsGrown (core_of before) delta turnover after.state after.markers.marker
  pub image : IsImageRenewed (tiling (core_of before)) marks turnover after.state after.markers.marker before.image
      after.image before.work after.work
  pub bounds : FollowResets (tiling (core_of before)) before.conn marks before.image after.image before.bounds
      after.bounds
  pub cleared : after.marks ≡ replicate (length marks) false
  pub queue : after.queue ≡ before.queue
  pub mask : after.markers.mask ≡ before.markers.mask
  pub tiling_is : after.markers.tiling ≡ before.markers.tiling
  pub conn : after.conn ≡ before.conn
  pub masks : after.masks ≡ before.masks
  pub serial : after.serial ≡ before.serial
