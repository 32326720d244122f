-- How a state grows while it takes in another, and what is new in that other.
use Rattle.std.specs.Prelude.{◌≡◌, ℕ, List, ◌⊎◌, ◌↔◌, Contains}
use Rattle.stroke_core.specs.Seed.{Seed}
use Rattle.stroke_lattice.specs.State.{State, HasStroke, HasSomeStroke, HasTombstone, IsLiveTag, IsBelow}
use Rattle.stroke_lattice.specs.Change.{AreRising}

-- the new state is above the old one, and what it has more stands in the one that is taken in
pub record IsBetween (old given new : State) : Type 0 where
  pub above : IsBelow old new
  pub strokes : (tag : ℕ) (seed : Seed) → HasStroke new tag seed → HasStroke old tag seed ⊎ HasStroke given tag seed
  pub tombstones : (tag : ℕ) → HasTombstone new tag → HasTombstone old tag ⊎ HasTombstone given tag

-- each tag that has a stroke in the second has one in the first
abbrev pub HasTagsOf : State → State → Type 0
HasTagsOf s given = (tag : ℕ) → HasSomeStroke given tag → HasSomeStroke s tag

-- each tombstone of the second is one of the first
abbrev pub HasTombstonesOf : State → State → Type 0
HasTombstonesOf s given = (tag : ℕ) → HasTombstone given tag → HasTombstone s tag

-- the new state is the old one without the strokes of these tags
pub record IsWithoutStrokes (tags : List ℕ) (old new : State) : Type 0 where
  pub strokes : (tag : ℕ) (seed : Seed) → HasStroke new tag seed ↔ (HasStroke old tag seed × (Contains tags tag → ⊥))
  pub tombstones : new.tombstones ≡ old.tombstones

-- the new state is the old one without these tombstones
pub record IsWithoutTombstones (tags : List ℕ) (old new : State) : Type 0 where
  pub strokes : new.strokes ≡ old.strokes
  pub tombstones : (tag : ℕ) → HasTombstone new tag ↔ (HasTombstone old tag × (Contains tags tag → ⊥))

-- the second state has a stroke of the tag, and the first has none
abbrev pub IsNewStroke : State → State → ℕ → Type 0
IsNewStroke held given tag = HasSomeStroke given tag × (HasSomeStroke held tag → ⊥)

-- the tag is a tombstone of the second state, and not of the first
abbrev pub IsNewTombstone : State → State → ℕ → Type 0
IsNewTombstone held given tag = HasTombstone given tag × (HasTombstone held tag → ⊥)

-- the first state has no stroke of the tag, and neither state a tombstone
abbrev pub IsVacant : State → State → ℕ → Type 0
IsVacant held given tag = (HasSomeStroke held tag → ⊥) × (HasTombstone held tag → ⊥) × (HasTombstone given tag → ⊥)

-- the tag becomes live where the first state takes in the second
abbrev pub IsBirth : State → State → ℕ → Type 0
IsBirth held given tag = HasSomeStroke given tag × IsVacant held given tag

-- the tag ceases to be live where the first state takes in the second
abbrev pub IsDeath : State → State → ℕ → Type 0
IsDeath held given tag = HasTombstone given tag × IsLiveTag held tag

-- the tags of which something holds, rising
pub record AreTags (P : ℕ → Type 0) (tags : List ℕ) : Type 0 where
  pub each : (tag : ℕ) → Contains tags tag ↔ P tag
  pub rise : AreRising tags
