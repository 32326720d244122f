-- What the walks over a state give.
use Rattle.std.specs.Prelude.{ℕ, List, map, ◌↔◌, Contains}
use Rattle.stroke_core.specs.Seed.{Seed}
use Rattle.stroke_lattice.specs.{State.State, State.HasStroke, State.HasTombstone, State.IsLive, Change.AreRising}

-- the strokes of the state with their tags, rising by tag
pub record AreStrokes (s : State) (entries : List (ℕ × Seed)) : Type 0 where
  pub each : (tag : ℕ) (seed : Seed) → Contains entries (tag, seed) ↔ HasStroke s tag seed
  pub rise : AreRising (map (λ entry. entry.0) entries)

-- the tombstones of the state, rising
pub record AreTombstones (s : State) (tags : List ℕ) : Type 0 where
  pub each : (tag : ℕ) → Contains tags tag ↔ HasTombstone s tag
  pub rise : AreRising tags

-- the live strokes of the state with their tags, rising by tag
pub record AreLive (s : State) (entries : List (ℕ × Seed)) : Type 0 where
  pub each : (tag : ℕ) (seed : Seed) → Contains entries (tag, seed) ↔ IsLive s tag seed
  pub rise : AreRising (map (λ entry. entry.0) entries)
