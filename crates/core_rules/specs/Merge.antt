-- What a core becomes where it takes a delta, and why it refuses one.
use Rattle.std.specs.Prelude.{◌≡◌, ℕ, ◌<◌, ◌⊎◌, ◌↔◌, max, length, IsTrue, List, [], ◌∷◌}
use Rattle.grid_core.specs.{declared.pixel.Pixel.Pixel, Raster.Raster, Raster.value_at, Tiles.Tiles}
use Rattle.stroke_lattice.specs.State.{State, StateFits, IsJoin, AreCompatible, IsLeastOutside, IsLeastClash}
use Rattle.stroke_lattice.specs.Change.{Turnover, IsChange}
use Rattle.marker_tiles.specs.Marker.{IsMarker}
use Rattle.tile_generations.specs.Generations.{max_generation}
use Rattle.core_rules.specs.{declared.error.CoreError.CoreError, Image.IsOfSize}
use Rattle.core_rules.specs.declared.error.CoreError.TheVariants.{OutOfImage, Conflict, GenerationsSpent, Memory}
use Rattle.core_rules.specs.declared.error.CoreError.TheVariants.{BadSide}
use Rattle.core_rules.specs.Work.{Core, domain, tiling, mask_at, image_at, IsTile, work_at}
use Rattle.core_rules.specs.Hits.{IsInTile, IsHit, TouchesHit}
use Rattle.border_queues.specs.TileWork.{TileWork, reset_work}

-- the tile is reset: its work is that of a reset tile, and its pixels have the marker's values
pub record IsReset (tiles : Tiles) (marker : Pixel → ℕ) (new : Raster) (before after : TileWork) (t : ℕ)
    : Type 0 where
  pub work : after ≡ reset_work before
  pub image : (p : Pixel) → IsInTile tiles t p → value_at new p ≡ marker p

-- a pixel of the tile rises
pub record HasRisen (tiles : Tiles) (t : ℕ) (old new : Raster) : Type 0 where
  pub p : Pixel
  pub in_tile : IsInTile tiles t p
  pub rose : value_at old p < value_at new p

-- the tile is kept, and its image is raised to the marker: it is dirty if it was, if a pixel rose, or if it touches
-- a tile that is reset
pub record IsKept (before : Core) (marker : Pixel → ℕ) (after : Core) (t : ℕ) : Type 0 where
  pub work : work_at after t ≡ record (work_at before t) { dirty = (work_at after t).dirty }
  pub dirty : IsTrue (work_at after t).dirty
      ↔ (IsTrue (work_at before t).dirty ⊎ HasRisen (tiling before) t before.image after.image
      ⊎ TouchesHit before after.state t)
  pub image : (p : Pixel) → IsInTile (tiling before) t p → image_at after p ≡ max (image_at before p) (marker p)

-- the delta is taken: the strokes are the join, the tiles that are hit are reset, and the others are raised to the
-- new marker
pub record IsMerged (before : Core) (delta : State) (turnover : Turnover) (after : Core) : Type 0 where
  pub fits : StateFits before.mask.width before.mask.height delta
  pub unspent : (t : ℕ) → IsHit before after.state t → (work_at before t).generation < max_generation
  pub join : IsJoin before.state delta after.state
  pub change : IsChange before.state after.state turnover
  pub marker : Pixel → ℕ
  pub is_marker : IsMarker (domain before) (mask_at before) after.state marker
  pub each : (t : ℕ) → IsTile before t
      → (IsHit before after.state t
      × IsReset (tiling before) marker after.image (work_at before t) (work_at after t) t)
      ⊎ ((IsHit before after.state t → ⊥) × IsKept before marker after t)
  pub size : IsOfSize before.image after.image
  pub count : length after.tiles ≡ length before.tiles
  pub rest : after ≡ record before { state = after.state; image = after.image; tiles = after.tiles }

-- a tile that the delta would reset has spent its generations
pub record HasSpent (core : Core) (delta : State) : Type 0 where
  pub joined : State
  pub join : IsJoin core.state delta joined
  pub t : ℕ
  pub is_tile : IsTile core t
  pub hit : IsHit core joined t
  pub spent : (work_at core t).generation ≡ max_generation

-- why a delta is refused, each reason only where those before it do not stand: the least stroke that does not fit,
-- the least clash, or a tile that has spent its generations
abbrev pub IsRefused : Core → State → CoreError → Type 0
IsRefused core delta (OutOfImage tag) = IsLeastOutside core.mask.width core.mask.height delta tag
IsRefused core delta (Conflict tag) =
    StateFits core.mask.width core.mask.height delta × IsLeastClash core.state delta tag
IsRefused core delta GenerationsSpent = StateFits core.mask.width core.mask.height delta × HasSpent core delta
IsRefused core delta Memory = ⊥
IsRefused core delta BadSide = ⊥

-- the delta is taken, unless memory runs out: its strokes fit, nothing clashes, and no tile has spent its generations
pub record IsAcceptable (core : Core) (delta : State) : Type 0 where
  pub fits : StateFits core.mask.width core.mask.height delta
  pub compatible : AreCompatible core.state delta
  pub unspent : HasSpent core delta → ⊥

-- the first core takes the deltas, one after another, and is then the second
abbrev pub AreTaken : Core → List State → Core → Type 0
AreTaken start [] core = core ≡ start
AreTaken start (delta ∷ deltas) core =
    (next : Core) × (turnover : Turnover) × IsMerged start delta turnover next × AreTaken next deltas core
