-- Steps that are given to tiles.
use Rattle.std.specs.Prelude.{◌≡◌, ℕ, Bool, List, length, slice_index}
use Rattle.tile_work.specs.TileSet.{Has}

-- the tiles of which something holds have this step, and the others the one that they had
pub record AreMarkedWhere (P : ℕ → Type 0) (step : ℕ) (old new : List ℕ) : Type 0 where
  pub count : length new ≡ length old
  pub marked : (t : ℕ) → P t → slice_index new t ≡ step
  pub others : (t : ℕ) → (P t → ⊥) → slice_index new t ≡ slice_index old t

-- so it is with the tiles of the set. Only private functions have this word in their contracts
abbrev pub AreMarked : List Bool → ℕ → List ℕ → List ℕ → Type 0
AreMarked set step old new = AreMarkedWhere (Has set) step old new
