-- Which tiles are marked before a delta is taken: those that it resets.
use Rattle.std.specs.Prelude.{◌≡◌, ℕ, ◌+◌, ◌<◌, ◌≤◌, ◌⊎◌, ◌↔◌, Bool, List, length, IsTrue}
use Rattle.grid_core.specs.{declared.conn.Conn.Conn, declared.pixel.Pixel.Pixel, declared.rect.Rect.Rect, Raster.Raster}
use Rattle.grid_core.specs.{Raster.value_at, Neighbours.AreNeighbours, Rects.IsInRect, Tiles.Tiles, Tiles.count_of}
use Rattle.stroke_core.specs.Seed.{Seed, covers}
use Rattle.stroke_lattice.specs.State.{State, HasTombstone, IsLive, IsJoin}
use Rattle.core_rules.specs.Hits.{IsHitIn, IsReached}
use Rattle.tile_work.specs.TileSet.{Has}

-- marked are just the tiles that are hit where the strokes take the delta
abbrev pub AreHits : Tiles → Raster → Conn → State → State → List Bool → Type 0
AreHits tiles image conn state delta marks =
    (after : State) → IsJoin state delta after
    → (t : ℕ) → t < length marks → Has marks t ↔ IsHitIn tiles image conn state after t

-- ---- pixels of which something holds

-- some pixel of the rectangle is one of these
abbrev pub SomeIn : Rect → (Pixel → Type 0) → Type 0
SomeIn rect P = (p : Pixel) × IsInRect rect p × P p

-- so many pixels of a row, from this column on
abbrev pub pixels_upto : ℕ → ℕ → ℕ → Rect
pixels_upto x y w = record { x = x; y = y; w = w; h = 1 }

-- the live stroke of the tag covers the pixel
abbrev pub IsUnderLive : State → ℕ → Pixel → Type 0
IsUnderLive state tag p = (seed : Seed) × IsLive state tag seed × IsTrue (covers seed p)

-- a live stroke for which the delta has a tombstone covers the pixel
abbrev pub LosesStrokeTo : State → State → Pixel → Type 0
LosesStrokeTo state delta p = (tag : ℕ) × HasTombstone delta tag × IsUnderLive state tag p

-- the image is above 0 at the pixel
abbrev pub IsLight : Raster → Pixel → Type 0
IsLight image p = 0 < value_at image p

-- the image is above 0 at q, a neighbour of p
abbrev pub IsLightBeside : Raster → Conn → Pixel → Pixel → Type 0
IsLightBeside image conn p q = AreNeighbours conn p q × (0 < value_at image q)

-- the image is above 0 at p and at a neighbour of p in the rectangle
abbrev pub IsLinkedInto : Raster → Conn → Rect → Pixel → Type 0
IsLinkedInto image conn rect p = (0 < value_at image p) × SomeIn rect (IsLightBeside image conn p)

-- the rectangle, which may be empty, ends inside an image of this width and height
pub record EndsWithin (width height : ℕ) (rect : Rect) : Type 0 where
  pub columns : rect.x + rect.w ≤ width
  pub rows : rect.y + rect.h ≤ height

-- the pixel is at most 1 from the rectangle, in columns and in rows
pub record IsNear (rect : Rect) (p : Pixel) : Type 0 where
  pub left : rect.x ≤ p.x + 1
  pub right : p.x ≤ rect.x + rect.w
  pub above : rect.y ≤ p.y + 1
  pub below : p.y ≤ rect.y + rect.h

-- ---- marks that are set, and the queue of the tiles that were newly marked

-- no mark is taken back, and the queue gets each tile that is newly marked
pub record Grows (marks queue new_marks new_queue : List Bool) : Type 0 where
  pub count : length new_marks ≡ length marks
  pub queue_count : length new_queue ≡ length queue
  pub kept : (t : ℕ) → Has marks t → Has new_marks t
  pub queued : (t : ℕ) → Has new_queue t ↔ (Has queue t ⊎ (Has new_marks t × (Has marks t → ⊥)))

-- there is a mark and a place in the queue for each tile
pub record AreMarks (tiles : Tiles) (marks queue : List Bool) : Type 0 where
  pub count : length marks ≡ count_of tiles
  pub queue_count : length queue ≡ length marks

-- the tiles are marked to which links lead from the marked ones, and the queue is empty
pub record IsSpread (linked : ℕ → ℕ → Type 0) (before waiting after left : List Bool) : Type 0 where
  pub marks : (t : ℕ) → Has after t ↔ IsReached (Has before) linked t
  pub count : length after ≡ length before
  pub queue_count : length left ≡ length waiting
  pub none : (t : ℕ) → Has left t → ⊥

-- these tiles are marked, and those of them that were not are put into the queue
pub record Adds (P : ℕ → Type 0) (marks queue new_marks new_queue : List Bool) : Type 0 where
  pub grows : Grows marks queue new_marks new_queue
  pub marked : (t : ℕ) → Has new_marks t ↔ (Has marks t ⊎ P t)
