-- The work that is left at the tiles of an image, as plain data.
use Rattle.std.specs.Prelude.{◌≡◌, ℕ, ◌+◌, ◌≤◌, ◌==◌, ◌++◌, Bool, true, false, List, [], filter, Option, None}
use Rattle.std.specs.Prelude.{slice_index_or, count_by}
use Rattle.grid_core.specs.Tiles.{Tiles, tile_of}
use Rattle.border_queues.specs.declared.hint.Hint.{Hint}

-- the work that is left at a tile: its generation, which each reset raises by 1, whether it is to be swept, the
-- serial of the job that is out, and the hints that wait for it
pub record TileWork : Type 0 where
  pub generation : ℕ
  pub dirty : Bool
  pub out : Option ℕ
  pub inbox : List Hint

-- a tile of this generation at which no work is left
abbrev pub fresh : ℕ → TileWork
fresh first = record { generation = first; dirty = false; out = None; inbox = [] }

-- no work is left
abbrev pub idle : TileWork
idle = fresh 0

-- the work that is left at a tile, of that at all of them
abbrev pub work_of : List TileWork → ℕ → TileWork
work_of works t = slice_index_or works t idle

-- how many tiles are dirty
abbrev pub dirty_count : List TileWork → ℕ
dirty_count works = count_by (λ work. work.dirty) works

-- the tile is not dirty, no job of it is out, and no hint waits for it
pub record IsIdle (work : TileWork) : Type 0 where
  pub clean : work.dirty ≡ false
  pub none_out : work.out ≡ None
  pub empty : work.inbox ≡ []

-- the work at a tile that is reset: the next generation, dirty, its job forgotten, its hints kept
abbrev pub reset_work : TileWork → TileWork
reset_work work = record work { generation = work.generation + 1; dirty = true; out = None }

-- the work at a tile once hints have come for it
abbrev pub received : TileWork → List Hint → TileWork
received work hints = record work { inbox = work.inbox ++ hints }

-- the hints whose pixel lies in the tile, in their order
abbrev pub hints_at : Tiles → ℕ → List Hint → List Hint
hints_at tiles t hints = filter (λ hint. tile_of tiles hint.to_pixel == t) hints

-- it holds of the number, and of no lesser one
abbrev pub IsLeast : (ℕ → Type 0) → ℕ → Type 0
IsLeast P n = P n × ((m : ℕ) → P m → n ≤ m)
