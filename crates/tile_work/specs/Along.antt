-- The tiles beyond the sides of one, and the hints that it tells them by the values along its sides.
use Rattle.std.specs.Prelude.{◌≡◌, ◌≢◌, ℕ, ◌+◌, ◌-◌, ◌<◌, ◌≤◌, Bool, true, false, List, ◌++◌, length}
use Rattle.std.specs.Prelude.{slice_index, nat_lt, IsTrue}
use Rattle.grid_core.specs.{declared.pixel.Pixel.Pixel, declared.rect.Rect.Rect}
use Rattle.grid_core.specs.Tiles.{Tiles, count_of, tile_of}
use Rattle.border_queues.specs.declared.sides.{Side.Side, Sides.Sides}
use Rattle.border_queues.specs.{OpenEdges.Sender, Sides.HasLength, Sides.NoneCanRise, Sides.at, Sides.hints_along}
use Rattle.border_queues.specs.Runs.{IsToldAlong, place_of}
use Rattle.border_queues.specs.{declared.hint.Hint.Hint, TileWork.TileWork, TileWork.work_of}
use Rattle.tile_work.specs.declared.work_table.{along.Beyond.Beyond, along.BeyondSides.BeyondSides, row.TileRow.TileRow}
use Rattle.tile_work.specs.WorkTable.{AreReceived, works_of, hint_rooms_of, run_rooms_of, waiting_bits}

-- ---- what lies beyond a side

-- beyond a side of so many pixels, from this one on, if the image goes on there. All of them are told, or none where
-- none can rise
pub record LeadsTo (tiles : Tiles) (goes_on : Bool) (first : Pixel) (is_column : Bool) (count : ℕ) (side : Side)
    (beyond : Beyond) : Type 0 where
  pub within : beyond.tile < count_of tiles
  pub tile_is : IsTrue goes_on → beyond.tile ≡ tile_of tiles first
  pub first_is : beyond.first ≡ first
  pub is_column_is : beyond.is_column ≡ is_column
  pub some : 0 < beyond.count → IsTrue goes_on × (beyond.count ≡ count)
  pub closed : IsTrue goes_on → beyond.count ≡ 0 → NoneCanRise side count

-- so it is at the four sides of the rectangle
pub record AreBeyond (tiles : Tiles) (rect : Rect) (sides : Sides) (beyond : BeyondSides) : Type 0 where
  pub above : LeadsTo tiles (nat_lt 0 rect.y) (at rect.x (rect.y - 1)) false rect.w sides.above beyond.above
  pub left : LeadsTo tiles (nat_lt 0 rect.x) (at (rect.x - 1) rect.y) true rect.h sides.left beyond.left
  pub right :
      LeadsTo tiles (nat_lt (rect.x + rect.w) tiles.width) (at (rect.x + rect.w) rect.y) true rect.h sides.right
      beyond.right
  pub below :
      LeadsTo tiles (nat_lt (rect.y + rect.h) tiles.height) (at rect.x (rect.y + rect.h)) false rect.w sides.below
      beyond.below

-- the tiles beyond the sides are of so many
pub record AreWithin (count : ℕ) (beyond : BeyondSides) : Type 0 where
  pub above : beyond.above.tile < count
  pub left : beyond.left.tile < count
  pub right : beyond.right.tile < count
  pub below : beyond.below.tile < count

-- two sides that tell do not tell the same tile
abbrev pub TellApart : Beyond → Beyond → Type 0
TellApart one other = 0 < one.count → 0 < other.count → one.tile ≢ other.tile

-- so it is of any two sides
pub record AreApart (beyond : BeyondSides) : Type 0 where
  pub above_left : TellApart beyond.above beyond.left
  pub above_right : TellApart beyond.above beyond.right
  pub above_below : TellApart beyond.above beyond.below
  pub left_right : TellApart beyond.left beyond.right
  pub left_below : TellApart beyond.left beyond.below
  pub right_below : TellApart beyond.right beyond.below

-- ---- what can be told

-- there are values for each pixel beyond, and the rows and columns of these fit in 32 bits
pub record CanTell (side : Side) (beyond : Beyond) : Type 0 where
  pub lengths : HasLength beyond.count side
  pub place : place_of beyond.first beyond.is_column + beyond.count ≤ 4294967296

-- so it is at the four sides
pub record CanAllTell (sides : Sides) (beyond : BeyondSides) : Type 0 where
  pub above : CanTell sides.above beyond.above
  pub left : CanTell sides.left beyond.left
  pub right : CanTell sides.right beyond.right
  pub below : CanTell sides.below beyond.below

-- at the tile beyond there is room for the hints of one run
pub record HasRoomBeyond (rows : List TileRow) (beyond : Beyond) : Type 0 where
  pub hints : 0 < beyond.count → beyond.count ≤ slice_index (hint_rooms_of rows) beyond.tile
  pub runs : 0 < beyond.count → 0 < slice_index (run_rooms_of rows) beyond.tile

-- so it is at the four tiles
pub record HaveRoomBeyond (rows : List TileRow) (beyond : BeyondSides) : Type 0 where
  pub above : HasRoomBeyond rows beyond.above
  pub left : HasRoomBeyond rows beyond.left
  pub right : HasRoomBeyond rows beyond.right
  pub below : HasRoomBeyond rows beyond.below

-- no row lost room
pub record HaveGrown (old new : List TileRow) : Type 0 where
  pub hints : (t : ℕ) → slice_index (hint_rooms_of old) t ≤ slice_index (hint_rooms_of new) t
  pub runs : (t : ℕ) → slice_index (run_rooms_of old) t ≤ slice_index (run_rooms_of new) t

-- ---- what was told

-- the side is told, and the pixels beyond lie in the tile there
pub record IsTelling (s : Sender) (from generation : ℕ) (side : Side) (beyond : Beyond) (inner outer : ℕ → Pixel) :
    Type 0 where
  pub told : IsToldAlong from generation beyond.first beyond.is_column beyond.count side inner outer s
  pub there : (i : ℕ) → i < beyond.count → tile_of s.tiles (outer i) ≡ beyond.tile

-- only hints came or went
pub record HaveOtherInboxes (old new : List TileWork) : Type 0 where
  pub count : length new ≡ length old
  pub each : (t : ℕ) → t < length old → work_of new t ≡ record (work_of old t) { inbox = (work_of new t).inbox }

-- the tile beyond the side got the hints, in one run, and the set says where hints wait
pub record IsTold (from generation : ℕ) (side : Side) (beyond : Beyond) (old new : List TileRow) (waits : List Bool) :
    Type 0 where
  pub others : HaveOtherInboxes (works_of old) (works_of new)
  pub hint_rooms : (t : ℕ) → (0 < beyond.count → t ≢ beyond.tile)
      → slice_index (hint_rooms_of new) t ≡ slice_index (hint_rooms_of old) t
  pub run_rooms : (t : ℕ) → (0 < beyond.count → t ≢ beyond.tile)
      → slice_index (run_rooms_of new) t ≡ slice_index (run_rooms_of old) t
  pub waiting : waits ≡ waiting_bits (works_of new)
  pub came : (s : Sender) (inner outer : ℕ → Pixel) → IsTelling s from generation side beyond inner outer
      → AreReceived s.tiles (hints_along s beyond.count inner outer) (works_of old) (works_of new)

-- the pixels of a side, and those beyond it
pub record Pairs : Type 0 where
  pub inner : ℕ → Pixel
  pub outer : ℕ → Pixel

-- those of the four sides
pub record SidePairs : Type 0 where
  pub above : Pairs
  pub left : Pairs
  pub right : Pairs
  pub below : Pairs

-- so are the four sides
pub record AreTelling (s : Sender) (from generation : ℕ) (sides : Sides) (beyond : BeyondSides) (pairs : SidePairs) :
    Type 0 where
  pub above : IsTelling s from generation sides.above beyond.above pairs.above.inner pairs.above.outer
  pub left : IsTelling s from generation sides.left beyond.left pairs.left.inner pairs.left.outer
  pub right : IsTelling s from generation sides.right beyond.right pairs.right.inner pairs.right.outer
  pub below : IsTelling s from generation sides.below beyond.below pairs.below.inner pairs.below.outer

-- the hints of the four sides, one side after another
abbrev pub hints_beyond : Sender → BeyondSides → SidePairs → List Hint
hints_beyond s beyond pairs =
    hints_along s beyond.above.count pairs.above.inner pairs.above.outer
    ++ hints_along s beyond.left.count pairs.left.inner pairs.left.outer
    ++ hints_along s beyond.right.count pairs.right.inner pairs.right.outer
    ++ hints_along s beyond.below.count pairs.below.inner pairs.below.outer

-- the tiles beyond the four sides got their hints, and the set says where hints wait
pub record AreTold (from generation : ℕ) (sides : Sides) (beyond : BeyondSides) (old new : List TileWork)
    (waits : List Bool) : Type 0 where
  pub others : HaveOtherInboxes old new
  pub waiting : waits ≡ waiting_bits new
  pub came : (s : Sender) (pairs : SidePairs) → AreTelling s from generation sides beyond pairs
      → AreReceived s.tiles (hints_beyond s beyond pairs) old new
