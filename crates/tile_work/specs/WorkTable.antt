-- The work that is left at each tile as the table of a core stores it, and what the table answers.
use Rattle.std.specs.Prelude.{◌≡◌, ◌≢◌, ℕ, ◌+◌, ◌<◌, ◌≤◌, ◌==◌, Bool, true, false, if◌then◌else◌, List, [], ◌∷◌, map}
use Rattle.std.specs.Prelude.{not, ◌&&◌, is_some, length, min, remove, slice_index, slice_set, IsTrue, IsSome}
use Rattle.std.specs.Prelude.{Some, None}
use Rattle.grid_core.specs.{Raster.IsInside, Tiles.Tiles, Tiles.AreTouching, Tiles.tile_of}
use Rattle.border_queues.specs.declared.hint.Hint.{Hint}
use Rattle.border_queues.specs.TileWork.{TileWork, work_of, received, hints_at}
use Rattle.tile_generations.specs.Generations.{max_generation}
use Rattle.tile_work.specs.{Counts.count_from, declared.work_table.row.TileRow.TileRow}

-- the tile is dirty
abbrev pub IsDirtyTile : List TileWork → ℕ → Type 0
IsDirtyTile works t = (t < length works) × IsTrue (work_of works t).dirty

-- a job of the tile is out
abbrev pub HasJobOut : List TileWork → ℕ → Type 0
HasJobOut works t = (t < length works) × IsSome (work_of works t).out

-- a hint waits at the tile
abbrev pub HasHintsAt : List TileWork → ℕ → Type 0
HasHintsAt works t = (t < length works) × ((work_of works t).inbox ≢ [])

-- the tile can be taken: it is dirty, and no job of it is out
abbrev pub CanBeTaken : List TileWork → ℕ → Type 0
CanBeTaken works t = IsDirtyTile works t × ((work_of works t).out ≡ None)

-- whether a tile with this work can be taken
abbrev pub can_be_taken : TileWork → Bool
can_be_taken work = work.dirty && not (is_some work.out)

-- how many of so many tiles, from this one on, can be taken
abbrev pub ready_in : List TileWork → ℕ → ℕ → ℕ
ready_in works from n = count_from (λ t. can_be_taken (work_of works t)) from n

-- ---- hints that come

-- the hint's pixel is inside the image
abbrev pub IsToInside : Tiles → Hint → Type 0
IsToInside tiles hint = IsInside tiles.width tiles.height hint.to_pixel

-- the hint goes to a tile that touches this one
pub record IsToTouching (tiles : Tiles) (from : ℕ) (hint : Hint) : Type 0 where
  pub inside : IsToInside tiles hint
  pub touching : AreTouching tiles from (tile_of tiles hint.to_pixel)

-- each tile received those of the hints that go to it
pub record AreReceived (tiles : Tiles) (hints : List Hint) (old new : List TileWork) : Type 0 where
  pub count : length new ≡ length old
  pub each : (t : ℕ) → t < length old → work_of new t ≡ received (work_of old t) (hints_at tiles t hints)

-- the tile's job went out under this serial, and the tile is no longer dirty
abbrev pub taken : TileWork → ℕ → TileWork
taken work serial = record work { dirty = false; out = Some serial }

-- the hint at this place was taken out
abbrev pub without_hint : TileWork → ℕ → TileWork
without_hint work place = record work { inbox = remove work.inbox place }

-- ---- the stored form

-- the work that a row stores
abbrev pub as_work : TileRow → TileWork
as_work row = record {
  generation = row.generation;
  dirty = row.dirty;
  out = row.out;
  inbox = row.inbox.hints;
}

-- the work that the rows store
abbrev pub works_of : List TileRow → List TileWork
works_of rows = map as_work rows

-- how many more hints there is room for at a row, wherever they go: each is a run of its own at worst
abbrev pub room_of : TileRow → ℕ
room_of row = min row.inbox.room row.inbox.runs

-- so at each row
abbrev pub rooms_of : List TileRow → List ℕ
rooms_of rows = map room_of rows

-- how many more hints there is room for at each row, and how many more runs
abbrev pub hint_rooms_of : List TileRow → List ℕ
hint_rooms_of rows = map (λ row. row.inbox.room) rows

abbrev pub run_rooms_of : List TileRow → List ℕ
run_rooms_of rows = map (λ row. row.inbox.runs) rows

-- each of these tiles has room for so many more hints
abbrev pub HaveRooms : List ℕ → List ℕ → List TileRow → Type 0
HaveRooms tiles counts rows =
    (k : ℕ) → k < length tiles → slice_index counts k ≤ slice_index (rooms_of rows) (slice_index tiles k)

-- each tile has room for those of the hints that go to it
abbrev pub HaveRoomFor : Tiles → List Hint → List TileRow → Type 0
HaveRoomFor tiles hints rows =
    (t : ℕ) → t < length rows → length (hints_at tiles t hints) ≤ slice_index (rooms_of rows) t

-- whether a hint is in the list
abbrev pub is_some_hint : List Hint → Bool
is_some_hint [] = false
is_some_hint (hint ∷ hints) = true

-- which tiles are dirty
abbrev pub dirty_bits : List TileWork → List Bool
dirty_bits works = map (λ work. work.dirty) works

-- which tiles have a job out
abbrev pub out_bits : List TileWork → List Bool
out_bits works = map (λ work. is_some work.out) works

-- at which tiles hints wait
abbrev pub waiting_bits : List TileWork → List Bool
waiting_bits works = map (λ work. is_some_hint work.inbox) works

-- the tile got the hint, in one place of its room, and the set says where hints wait
pub record IsDelivered (tile : ℕ) (hint : Hint) (old new : List TileRow) (waits : List Bool) : Type 0 where
  pub works : works_of new ≡ slice_set (works_of old) tile (received (work_of (works_of old) tile) (hint ∷ []))
  pub room : (t : ℕ) → slice_index (rooms_of old) t ≤ slice_index (rooms_of new) t + (if tile == t then 1 else 0)
  pub waiting : waits ≡ waiting_bits (works_of new)

-- the three sets say what the rows say, and no generation is above the greatest
pub record AreInStep (works : List TileWork) (dirty out waiting : List Bool) : Type 0 where
  pub dirty_in_step : dirty ≡ dirty_bits works
  pub out_in_step : out ≡ out_bits works
  pub waiting_in_step : waiting ≡ waiting_bits works
  pub bounded : (t : ℕ) → t < length works → (work_of works t).generation ≤ max_generation
