-- What replicas agree on: strokes and tombstones under their tags, a set that only grows and is merged by
-- least upper bound (Shapiro, Preguiça, Baquero and Zawirski, "Conflict-free Replicated Data Types", 2011).
use Rattle.std.specs.Prelude.{◌≡◌, ℕ, ◌≤◌, List, [], ◌∷◌, Some, ◌⊎◌, ◌↔◌, IsTrue}
use Rattle.std.specs.{Ordering.nat_cmp, List.AllByRecursion}
use Rattle.stroke_core.specs.Seed.{Seed, Fits}
use Rattle.std.specs.FinMap as map
use Rattle.std.specs.FinSet as set

-- seeds by their tags, and the tags that were withdrawn
pub record State : Type 0 where
  pub strokes : map.FinMap nat_cmp Seed
  pub tombstones : set.FinSet nat_cmp

-- the state has this stroke under the tag, live or not
abbrev pub HasStroke : State → ℕ → Seed → Type 0
HasStroke s tag seed = map.get s.strokes tag ≡ Some seed

-- the state has a stroke of the tag, live or not
abbrev pub HasSomeStroke : State → ℕ → Type 0
HasSomeStroke s tag = (seed : Seed) × HasStroke s tag seed

-- the tag was withdrawn
abbrev pub HasTombstone : State → ℕ → Type 0
HasTombstone s tag = IsTrue (set.contains s.tombstones tag)

-- the stroke is there and was not withdrawn
abbrev pub IsLive : State → ℕ → Seed → Type 0
IsLive s tag seed = HasStroke s tag seed × (HasTombstone s tag → ⊥)

-- some stroke of the tag is live
abbrev pub IsLiveTag : State → ℕ → Type 0
IsLiveTag s tag = (seed : Seed) × IsLive s tag seed

-- each stroke and each tombstone of the first stands in the second
pub record IsBelow (a b : State) : Type 0 where
  pub strokes : (tag : ℕ) (seed : Seed) → HasStroke a tag seed → HasStroke b tag seed
  pub tombstones : (tag : ℕ) → HasTombstone a tag → HasTombstone b tag

-- each stroke of the first stands in the second
abbrev pub HasStrokesOf : State → State → Type 0
HasStrokesOf a b = (tag : ℕ) (seed : Seed) → HasStroke a tag seed → HasStroke b tag seed

-- the state has another stroke than this under the tag
abbrev pub HasOtherStroke : State → ℕ → Seed → Type 0
HasOtherStroke s tag seed = (other : Seed) × HasStroke s tag other × (other ≡ seed → ⊥)

-- the least state above both
pub record IsJoin (a b join : State) : Type 0 where
  pub first : IsBelow a join
  pub second : IsBelow b join
  pub least : (other : State) → IsBelow a other → IsBelow b other → IsBelow join other

-- the states give the tag two different strokes
pub record ClashAt (a b : State) (tag : ℕ) : Type 0 where
  pub seed : Seed
  pub other : Seed
  pub in_first : HasStroke a tag seed
  pub in_second : HasStroke b tag other
  pub differ : seed ≡ other → ⊥

-- the states clash at this tag, and at no lesser one
abbrev pub IsLeastClash : State → State → ℕ → Type 0
IsLeastClash a b tag = ClashAt a b tag × ((other : ℕ) → ClashAt a b other → tag ≤ other)

-- the states clash at no tag
abbrev pub AreCompatible : State → State → Type 0
AreCompatible a b = (tag : ℕ) → ClashAt a b tag → ⊥

-- each stroke of the state, live or not, fits an image of this width and height
abbrev pub StateFits : ℕ → ℕ → State → Type 0
StateFits width height s = (tag : ℕ) (seed : Seed) → HasStroke s tag seed → Fits width height seed

-- the stroke of this tag does not fit an image of this width and height
abbrev pub IsOutside : ℕ → ℕ → State → ℕ → Type 0
IsOutside width height s tag = (seed : Seed) × HasStroke s tag seed × (Fits width height seed → ⊥)

-- the least tag whose stroke does not fit
abbrev pub IsLeastOutside : ℕ → ℕ → State → ℕ → Type 0
IsLeastOutside width height s tag = IsOutside width height s tag × ((other : ℕ) → IsOutside width height s other
    → tag ≤ other)

-- the state without strokes and tombstones
abbrev pub nothing : State
nothing = record { strokes = map.empty; tombstones = set.empty }

-- a state of one stroke
abbrev pub placed : ℕ → Seed → State
placed tag seed = record { strokes = map.insert map.empty tag seed; tombstones = set.empty }

-- a state of one tombstone
abbrev pub withdrawn : ℕ → State
withdrawn tag = record { strokes = map.empty; tombstones = set.insert set.empty tag }

-- the stroke stands in one of the states
abbrev pub SomeHasStroke : List State → ℕ → Seed → Type 0
SomeHasStroke [] tag seed = ⊥
SomeHasStroke (s ∷ states) tag seed = HasStroke s tag seed ⊎ SomeHasStroke states tag seed

-- the tombstone stands in one of the states
abbrev pub SomeHasTombstone : List State → ℕ → Type 0
SomeHasTombstone [] tag = ⊥
SomeHasTombstone (s ∷ states) tag = HasTombstone s tag ⊎ SomeHasTombstone states tag

-- the join of states: it holds what stands in one of them, and nothing else
pub record IsJoinOf (states : List State) (join : State) : Type 0 where
  pub strokes : (tag : ℕ) (seed : Seed) → HasStroke join tag seed ↔ SomeHasStroke states tag seed
  pub tombstones : (tag : ℕ) → HasTombstone join tag ↔ SomeHasTombstone states tag

-- the state is above all of these, and below each other state that is
pub record IsLeastAbove (states : List State) (bound : State) : Type 0 where
  pub above : AllByRecursion (λ s. IsBelow s bound) states
  pub least : (other : State) → AllByRecursion (λ s. IsBelow s other) states → IsBelow bound other
