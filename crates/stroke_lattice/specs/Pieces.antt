-- A state in pieces that fit into frames of a greatest length: one piece is filled after another, greedily.
use Rattle.std.specs.Prelude.{◌≡◌, ℕ, ◌+◌, ◌<◌, ◌≤◌, List, [], ◌∷◌, ◌++◌, map, length, Bool, nat_le, nat_lt}
use Rattle.std.specs.Prelude.{if◌then◌else◌, sum_by}
use Rattle.std.specs.{Ordering.nat_cmp, List.AllByRecursion}
use Rattle.std.specs.FinMap.{entries, keys, insert, from_entries}
use Rattle.stroke_core.specs.Seed.{Seed, byte_len_of}
use Rattle.stroke_lattice.specs.State.{State, nothing}
use Rattle.std.specs.FinSet as set

-- what a state is made of: a stroke under its tag, or a tombstone
pub data Item : Type 0 where
  Placed : (tag : ℕ) (seed : Seed) → Item
  Withdrawn : (tag : ℕ) → Item

-- the strokes with their tags, rising by tag
abbrev pub strokes_of : State → List (ℕ × Seed)
strokes_of s = entries s.strokes

-- the tombstones, rising: they are keys of a map, which are in order
abbrev pub tombstones_of : State → List ℕ
tombstones_of s = keys (from_entries {R = nat_cmp} (map (λ tag. (tag, tt {0})) (set.items s.tombstones)))

-- the strokes as items, and the tombstones as items
abbrev pub stroke_items : State → List Item
stroke_items s = map (λ entry. Placed entry.0 entry.1) (strokes_of s)

abbrev pub tombstone_items : State → List Item
tombstone_items s = map (λ tag. Withdrawn tag) (tombstones_of s)

-- first the strokes and then the tombstones
abbrev pub items_of : State → List Item
items_of s = stroke_items s ++ tombstone_items s

-- how many bytes an item takes in a frame: a tombstone is a tag of 16
abbrev pub item_length : Item → ℕ
item_length (Placed tag seed) = byte_len_of seed.shape
item_length (Withdrawn tag) = 16

-- how many bytes the frame of the state has: 41 of its head and those of its items. The head is 4 of magic, 1 of
-- connectivity, 32 of fingerprint, and 2 for the number of strokes and 2 for that of tombstones
abbrev pub frame_length : State → ℕ
frame_length s = 41 + sum_by item_length (items_of s)

-- the state with one item more
abbrev pub with_item : State → Item → State
with_item s (Placed tag seed) = record s { strokes = insert s.strokes tag seed }
with_item s (Withdrawn tag) = record s { tombstones = set.insert s.tombstones tag }

-- whether the frame of the piece, with this item too, has at most so many bytes
abbrev pub fits : ℕ → State → Item → Bool
fits max piece item = nat_le (frame_length (with_item piece item)) max

-- the piece alone, or no piece where it has no item
abbrev pub if_any : State → List State
if_any piece = if nat_lt 0 (length (items_of piece)) then piece ∷ [] else []

-- the pieces where this one is open and these items are left: an item that does not fit opens the next piece
abbrev pub filled : ℕ → State → List Item → List State
filled max piece [] = if_any piece
filled max piece (item ∷ rest) = if fits max piece item then filled max (with_item piece item) rest
    else if_any piece ++ filled max (with_item nothing item) rest

-- the pieces of a state, each with a frame of at most so many bytes
abbrev pub pieces_of : ℕ → State → List State
pieces_of max s = filled max nothing (items_of s)

-- the frame of each piece has at most so many bytes
abbrev pub AllFit : ℕ → List State → Type 0
AllFit max pieces = AllByRecursion (λ piece. frame_length piece ≤ max) pieces

-- if there is a next piece, its first item did not fit into this one
abbrev pub IsFullBefore : ℕ → State → List State → Type 0
IsFullBefore max piece [] = Unit {0}
IsFullBefore max piece (next ∷ rest) = (item : Item) (others : List Item) → items_of next ≡ item ∷ others
    → max < frame_length (with_item piece item)

-- each piece but the last could not have taken the next item
abbrev pub AreFull : ℕ → List State → Type 0
AreFull max [] = Unit {0}
AreFull max (piece ∷ rest) = IsFullBefore max piece rest × AreFull max rest
