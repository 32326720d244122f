-- What a merge does to the image and to the work at the tiles, once strokes and marker are the new ones.
use Rattle.std.specs.Prelude.{◌≡◌, ℕ, ◌+◌, ◌*◌, ◌/◌, ◌<◌, ◌≤◌, ◌⊎◌, ◌↔◌, Bool, max, if◌then◌else◌, IsTrue, List, length}
use Rattle.std.specs.Prelude.{slice_index, Contains}
use Rattle.grid_core.specs.{declared.bounds.Bounds.Bounds, declared.conn.Conn.Conn, declared.pixel.Pixel.Pixel}
use Rattle.grid_core.specs.{declared.rect.Rect.Rect, Bounds.IsInBounds, Neighbours.AreNeighbours, Rects.IsInRect, Rects.RectFits}
use Rattle.grid_core.specs.Raster.{Raster, IsInside, value_at}
use Rattle.grid_core.specs.Tiles.{Tiles, tile_of, rect_of, count_of, AreTouching}
use Rattle.border_queues.specs.{OpenEdges.IsOnTiling, TileWork.TileWork, TileWork.work_of, TileWork.reset_work}
use Rattle.stroke_core.specs.{Seed.Seed, Seed.covers, declared.span.Span.Span}
use Rattle.stroke_lattice.specs.State.{State, HasStroke}
use Rattle.core_rules.specs.{Image.IsOfSize, Hits.IsInTile, Merge.HasRisen, Merge.IsReset}
use Rattle.tile_work.specs.{OpenBounds.AreWidened, OpenBounds.IsWithinItsBounds, OpenBounds.bounds_for, TileSet.Has}

-- the work is dirty if it was or if the tile is hit, and nothing else of it changes
pub record IsDirtyIf (is_hit : Type 0) (before after : TileWork) : Type 0 where
  pub rest : after ≡ record before { dirty = after.dirty }
  pub dirty : IsTrue after.dirty ↔ (IsTrue before.dirty ⊎ is_hit)

-- so is that of each tile
pub record AreDirtyWhere (is_hit : ℕ → Type 0) (before after : List TileWork) : Type 0 where
  pub count : length after ≡ length before
  pub each : (t : ℕ) → t < length before → IsDirtyIf (is_hit t) (work_of before t) (work_of after t)

-- ---- tiles that are reset

-- a marked tile touches this one
pub record TouchesMarked (tiling : Tiles) (is_marked : ℕ → Type 0) (t : ℕ) : Type 0 where
  pub u : ℕ
  pub marked : is_marked u
  pub touching : AreTouching tiling t u

-- the tile is kept: it is dirty if it was or if a marked tile touches it, and its pixels have their old values
pub record IsTileKept (tiling : Tiles) (is_marked : ℕ → Type 0) (old new : Raster) (before after : TileWork) (t : ℕ)
    : Type 0 where
  pub work : IsDirtyIf (TouchesMarked tiling is_marked t) before after
  pub values : (p : Pixel) → IsInTile tiling t p → value_at new p ≡ value_at old p

-- each marked tile is reset, and each other one is kept
abbrev pub AreReset : Tiles → (ℕ → Type 0) → Raster → Raster → Raster → List TileWork → List TileWork → Type 0
AreReset tiling is_marked marker old new before after =
    (t : ℕ) → t < length before
    → (is_marked t × IsReset tiling (value_at marker) new (work_of before t) (work_of after t) t)
    ⊎ ((is_marked t → ⊥) × IsTileKept tiling is_marked old new (work_of before t) (work_of after t) t)

-- the work of this tile is reset, each tile that touches it is dirty, and nothing else changes
pub record IsOneReset (tiling : Tiles) (before after : List TileWork) (tile : ℕ) : Type 0 where
  pub count : length after ≡ length before
  pub own : work_of after tile ≡ reset_work (work_of before tile)
  pub others : (t : ℕ) → t < length before → (t ≡ tile → ⊥)
      → IsDirtyIf (AreTouching tiling t tile) (work_of before t) (work_of after t)

-- the rectangle has the pixels of the tiles from the first one up to the end, all of which are in the set
pub record IsRun (tiling : Tiles) (set : List Bool) (first : ℕ) (rect : Rect) (end : ℕ) : Type 0 where
  pub order : first < end
  pub within : end ≤ count_of tiling
  pub has : (t : ℕ) → first ≤ t → t < end → Has set t
  pub fits : RectFits tiling.width tiling.height rect
  pub pixels : (p : Pixel) → IsInside tiling.width tiling.height p
      → IsInRect rect p ↔ ((first ≤ tile_of tiling p) × (tile_of tiling p < end))

-- the new image has the marker's values in these tiles, and the old ones elsewhere
pub record AreCopiedIn (tiling : Tiles) (is_marked : ℕ → Type 0) (marker old new : Raster) : Type 0 where
  pub size : IsOfSize old new
  pub within : (p : Pixel) → IsInside tiling.width tiling.height p → is_marked (tile_of tiling p)
      → value_at new p ≡ value_at marker p
  pub beyond : (p : Pixel) → IsInside tiling.width tiling.height p → (is_marked (tile_of tiling p) → ⊥)
      → value_at new p ≡ value_at old p

-- ---- values that are taken over from the marker

-- the marker's value
abbrev pub marker_value : ℕ → ℕ → ℕ
marker_value old marker = marker

-- the greater of the old value and the marker's
abbrev pub greater_value : ℕ → ℕ → ℕ
greater_value old marker = max old marker

-- the greater of the two values at this place
abbrev pub greater_at : List ℕ → List ℕ → ℕ → ℕ
greater_at values marker k = greater_value (slice_index values k) (slice_index marker k)

-- the value that is made of the old one and the marker's where the test holds, else the old one
abbrev pub made_if : Bool → (ℕ → ℕ → ℕ) → ℕ → ℕ → ℕ
made_if b make old marker = if b then make old marker else old

-- the new image has values made of the old ones and the marker's where the test holds, and the old ones elsewhere
pub record IsMadeWhere (test : Pixel → Bool) (make : ℕ → ℕ → ℕ) (marker old new : Raster) : Type 0 where
  pub size : IsOfSize old new
  pub values : (p : Pixel) → IsInside old.width old.height p
      → value_at new p ≡ made_if (test p) make (value_at old p) (value_at marker p)

-- the new image has the marker's values in the rectangle, and the old ones elsewhere
pub record IsCopiedIn (rect : Rect) (marker old new : Raster) : Type 0 where
  pub size : IsOfSize old new
  pub within : (p : Pixel) → IsInside old.width old.height p → IsInRect rect p → value_at new p ≡ value_at marker p
  pub beyond : (p : Pixel) → IsInside old.width old.height p → (IsInRect rect p → ⊥) → value_at new p ≡ value_at old p

-- what a cell becomes that is made of the old one and the marker's
abbrev pub made_at : (ℕ → ℕ → ℕ) → Raster → Raster → ℕ → ℕ
made_at make marker old k = make (slice_index old.cells k) (slice_index marker.cells k)

-- the image has cells from the first place up to the second, and the marker is of its size
pub record HaveCells (from to : ℕ) (marker image : Raster) : Type 0 where
  pub size : IsOfSize marker image
  pub order : from ≤ to
  pub within : to ≤ length image.cells

-- one of the values from the first place up to the second is less than the marker's
abbrev pub SomeIsLess : ℕ → ℕ → List ℕ → List ℕ → Type 0
SomeIsLess from to values marker =
    (k : ℕ) × (from ≤ k) × (k < to) × (slice_index values k < slice_index marker k)

-- a pixel at which the test holds has risen
pub record RisesWhere (test : Pixel → Bool) (old new : Raster) : Type 0 where
  pub p : Pixel
  pub inside : IsInside old.width old.height p
  pub tested : IsTrue (test p)
  pub rose : value_at old p < value_at new p

-- ---- tiles that are raised

-- marker and image are cut into these tiles, and there is work at each of them
pub record AreCutAlike (tiles : Tiles) (marker image : Raster) (work : List TileWork) : Type 0 where
  pub marker_is : IsOnTiling tiles marker
  pub image_is : IsOnTiling tiles image
  pub count : length work ≡ count_of tiles

-- the span, which may be empty, lies in the image
pub record IsSpanIn (image : Raster) (span : Span) : Type 0 where
  pub row : span.y < image.height
  pub order : span.first ≤ span.end
  pub columns : span.end ≤ image.width

-- the span has a pixel, and lies in one tile of the image
pub record IsPiece (tiles : Tiles) (span : Span) : Type 0 where
  pub row : span.y < tiles.height
  pub side : 0 < tiles.side
  pub some : span.first < span.end
  pub columns : span.end ≤ tiles.width
  pub tile : span.end ≤ (span.first / tiles.side + 1) * tiles.side

-- marker and image are of the size of the tiling, and there is work at each tile
pub record AreAtHand (tiling : Tiles) (marker image : Raster) (work : List TileWork) : Type 0 where
  pub size : IsOfSize marker image
  pub marker_is : IsOnTiling tiling marker
  pub count : length work ≡ count_of tiling

-- the image is raised to the marker where the test holds, and each tile in which a pixel rises is dirty
pub record IsRaisedWhere (tiling : Tiles) (test : Pixel → Bool) (marker old new : Raster)
    (before after : List TileWork) : Type 0 where
  pub values : IsMadeWhere test greater_value marker old new
  pub work : AreDirtyWhere (λ t. HasRisen tiling t old new) before after

-- one of the strokes that stand under these tags, live or not, covers the pixel
pub record IsUnder (s : State) (tags : List ℕ) (p : Pixel) : Type 0 where
  pub tag : ℕ
  pub seed : Seed
  pub listed : Contains tags tag
  pub has : HasStroke s tag seed
  pub covered : IsTrue (covers seed p)

-- the image is raised to the marker where one of the strokes under these tags covers the pixel, and only there
pub record IsRaisedUnder (s : State) (tags : List ℕ) (marker old new : Raster) : Type 0 where
  pub under : (p : Pixel) → IsInside old.width old.height p → IsUnder s tags p
      → value_at new p ≡ max (value_at old p) (value_at marker p)
  pub beyond : (p : Pixel) → IsInside old.width old.height p → (IsUnder s tags p → ⊥) → value_at new p ≡ value_at old p

-- where none of the strokes under the tags covers the pixel the marker is nowhere above the image
abbrev pub IsLowBeyond : State → List ℕ → Raster → Raster → Type 0
IsLowBeyond s tags marker image =
    (p : Pixel) → IsInside image.width image.height p → (IsUnder s tags p → ⊥) → value_at marker p ≤ value_at image p

-- ---- bounds outside which nothing open begins

-- the bounds of the pixels of a span
abbrev pub span_bounds : Span → Bounds
span_bounds s = record { left = s.first; right = s.end; top = s.y; bottom = s.y + 1 }

-- these tiles are widened by their pixels within the bounds `near`
pub record AreWidenedNear (tiles : Tiles) (near : Bounds) (is_listed : ℕ → Type 0) (old new : List Bounds)
    : Type 0 where
  pub widened : AreWidened tiles old new
  pub within : (t : ℕ) (p : Pixel) → is_listed t → IsInRect (rect_of tiles t) p → IsInBounds near p
      → IsInBounds (bounds_for new t) p

-- each pixel of a marked tile is within its bounds, and so is each that has a neighbour in one
pub record AreResetsWithin (tiles : Tiles) (is_marked : ℕ → Type 0) (old new : List Bounds) : Type 0 where
  pub widened : AreWidened tiles old new
  pub own : (p : Pixel) → IsInside tiles.width tiles.height p → is_marked (tile_of tiles p)
      → IsWithinItsBounds tiles new p
  pub beside : (conn : Conn) (p q : Pixel) → IsInside tiles.width tiles.height p
      → IsInside tiles.width tiles.height q → AreNeighbours conn p q → is_marked (tile_of tiles q)
      → IsWithinItsBounds tiles new p

-- each pixel that rises is within its bounds
pub record AreRisesWithin (tiles : Tiles) (old new : Raster) (before after : List Bounds) : Type 0 where
  pub widened : AreWidened tiles before after
  pub rises : (p : Pixel) → IsInside tiles.width tiles.height p → value_at old p < value_at new p
      → IsWithinItsBounds tiles after p

-- ---- what a merge does

-- the marked tiles are reset
pub record AreMarkedReset (tiles : Tiles) (marks : List Bool) (marker old new : Raster) (work after : List TileWork)
    : Type 0 where
  pub size : IsOfSize old new
  pub count : length after ≡ length work
  pub each : AreReset tiles (Has marks) marker old new work after

-- the image is raised to the marker where a stroke under one of the tags lies
pub record IsRaisedByTags (tiles : Tiles) (tags : List ℕ) (state : State) (marker old new : Raster)
    (work after : List TileWork) : Type 0 where
  pub size : IsOfSize old new
  pub count : length after ≡ length work
  pub values : IsRaisedUnder state tags marker old new
  pub dirty : (t : ℕ) → t < length work
      → IsDirtyIf (HasRisen tiles t old new) (work_of work t) (work_of after t)
