-- The generations of tiles, which each reset raises by 1.
use Rattle.std.specs.Prelude.{◌≡◌, ℕ, ◌+◌, ◌<◌, ◌≤◌, Bool, false, IsTrue, if◌then◌else◌, List, length, slice_index}
use Rattle.std.specs.Prelude.{slice_index_or}

-- the greatest generation, 2^48 - 1
abbrev pub max_generation : ℕ
max_generation = 281474976710655

-- whether the tile is marked
abbrev pub is_marked : List Bool → ℕ → Bool
is_marked marks t = slice_index_or marks t false

-- each marked tile has the next generation, and every other one its own
pub record IsAdvanced (marks : List Bool) (old new : List ℕ) : Type 0 where
  pub count : length new ≡ length old
  pub each : (t : ℕ) → t < length old
      → slice_index new t ≡ (if is_marked marks t then slice_index old t + 1 else slice_index old t)

-- a marked tile has the greatest generation
pub record HasSpent (marks : List Bool) (generations : List ℕ) : Type 0 where
  pub t : ℕ
  pub is_tile : t < length generations
  pub marked : IsTrue (is_marked marks t)
  pub spent : slice_index generations t ≡ max_generation

-- no generation is above the greatest
abbrev pub AreGenerations : List ℕ → Type 0
AreGenerations generations = (t : ℕ) → t < length generations → slice_index generations t ≤ max_generation

-- there is a mark for each tile, and no marked tile has the greatest generation
pub record CanAdvance (marks : List Bool) (generations : List ℕ) : Type 0 where
  pub count : length marks ≡ length generations
  pub bounded : AreGenerations generations
  pub unspent : HasSpent marks generations → ⊥
