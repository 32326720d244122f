-- Hints that wait as runs of one sender, generation and border, as plain data.
use Rattle.std.specs.Prelude.{◌≡◌, ◌≢◌, ℕ, ◌+◌, ◌-◌, ◌<◌, min, Bool, false, nat_lt, if◌then◌else◌, List, [], ◌∷◌}
use Rattle.std.specs.Prelude.{map, flat_map, length, slice_index, slice_index_or}
use Rattle.std.specs.List.{All, range_with_len}
use Rattle.grid_core.specs.{declared.pixel.Pixel.Pixel, Tiles.tile_of}
use Rattle.border_queues.specs.{declared.hint.Hint.Hint, declared.runs.Run.Run, declared.runs.Entry.Entry}
use Rattle.border_queues.specs.{declared.sides.Side.Side, OpenEdges.Sender}
use Rattle.border_queues.specs.Sides.{IsAlong, at, level_at}

-- the hints, first come first, and how many more hints and how many more runs there is room for
pub record WaitingRuns : Type 0 where
  pub hints : List Hint
  pub room : ℕ
  pub runs : ℕ

-- the pixel so many places behind the first one: down its column, or to the right in its row
abbrev pub pixel_behind : Pixel → Bool → ℕ → Pixel
pixel_behind first is_column place =
    if is_column then at first.x (first.y + place) else at (first.x + place) first.y

-- where the first pixel lies in its column, or in its row
abbrev pub place_of : Pixel → Bool → ℕ
place_of first is_column = if is_column then first.y else first.x

-- the sender is this tile in this generation, the values are those along so many of its pixels, and the pixels beyond,
-- which follow on this first one in their column or their row, lie in other tiles
pub record IsToldAlong (from from_generation : ℕ) (first : Pixel) (is_column : Bool) (count : ℕ) (side : Side)
    (inner outer : ℕ → Pixel) (s : Sender) : Type 0 where
  pub tile : s.tile ≡ from
  pub generation : s.generation ≡ from_generation
  pub along : IsAlong count inner outer s.image s.mask side
  pub pixels : (i : ℕ) → i < count → outer i ≡ pixel_behind first is_column i
  pub others : (i : ℕ) → i < count → tile_of s.tiles (outer i) ≢ s.tile

-- ---- words of the private functions

-- how many more runs there may be, of at most 2^32, whose numbers fit in 32 bits
abbrev pub runs_left : ℕ → ℕ → ℕ
runs_left capacity len = min capacity 4294967296 - len

-- the hint of an entry of the run
abbrev pub hint_by : Run → Entry → Hint
hint_by run entry = record {
  from = run.from;
  from_generation = run.from_generation;
  to_pixel = pixel_behind run.first run.is_column entry.place;
  value = entry.value;
}

abbrev pub no_run : Run
no_run = record { from = 0; from_generation = 0; first = at 0 0; is_column = false }

-- the run of an entry
abbrev pub run_of : List Run → Entry → Run
run_of runs entry = slice_index_or runs entry.run no_run

-- the hints of entries
abbrev pub hints_by : List Run → List Entry → List Hint
hints_by runs entries = map (λ entry. hint_by (run_of runs entry) entry) entries

-- the entry has a run, and its pixel's column and row fit in 32 bits
pub record IsEntry (runs : List Run) (entry : Entry) : Type 0 where
  pub run : entry.run < length runs
  pub place : place_of (run_of runs entry).first (run_of runs entry).is_column + entry.place < 4294967296

abbrev pub AreEntries : List Run → List Entry → Type 0
AreEntries runs entries = All (IsEntry runs) entries

-- the entry for a place of a side, if the pixel beyond can rise
abbrev pub entry_at : ℕ → Side → ℕ → List Entry
entry_at run side place =
    if nat_lt (slice_index side.beyond.now place) (level_at side place)
    then record { run = run; place = place; value = level_at side place } ∷ [] else []

-- the entries for the places below this one
abbrev pub entries_along : ℕ → Side → ℕ → List Entry
entries_along run side count = flat_map (entry_at run side) (range_with_len 0 count)
