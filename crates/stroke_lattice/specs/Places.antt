-- The pieces of a state from one of them on, by where it begins.
use Rattle.std.specs.Prelude.{◌≡◌, ℕ, List, [], ◌++◌, map, Bool, true, false, nat_le, Option, Some, None, filter}
use Rattle.stroke_core.specs.Seed.{Seed}
use Rattle.stroke_lattice.specs.{declared.entries.Entry.Entry, declared.piece.OpenPiece.OpenPiece}
use Rattle.stroke_lattice.specs.{declared.piece.Place.Place, State.State, State.nothing}
use Rattle.stroke_lattice.specs.Pieces.{Item, Placed, Withdrawn, items_of, frame_length, filled}
use Rattle.stroke_lattice.specs.declared.entries.Entry.TheVariants as entries
use Rattle.stroke_lattice.specs.declared.piece.Place.TheVariants as places

-- whether the item stands at the place or behind it
abbrev pub is_from : Place → Item → Bool
is_from (places.Stroke tag) (Placed other seed) = nat_le tag other
is_from (places.Stroke tag) (Withdrawn other) = true
is_from (places.Tombstone tag) (Placed other seed) = false
is_from (places.Tombstone tag) (Withdrawn other) = nat_le tag other

-- the items of the state at the place and behind it
abbrev pub items_from : State → Place → List Item
items_from s place = filter (is_from place) (items_of s)

-- the pieces of the state where the first of them begins at the place
abbrev pub pieces_from : ℕ → State → Place → List State
pieces_from max s place = filled max nothing (items_from s place)

-- the same, or none where there is no place
abbrev pub pieces_behind : ℕ → State → Option Place → List State
pieces_behind max s None = []
pieces_behind max s (Some place) = pieces_from max s place

-- where an item stands
abbrev pub place_of : Item → Place
place_of (Placed tag seed) = places.Stroke tag
place_of (Withdrawn tag) = places.Tombstone tag

-- the items of these strokes and of these tombstones
abbrev pub items_in : List (ℕ × Seed) → List ℕ → List Item
items_in strokes tombstones =
    map (λ entry. Placed entry.0 entry.1) strokes ++ map (λ tag. Withdrawn tag) tombstones

-- what an entry of the walk over a state is
abbrev pub item_of : Entry → Item
item_of (entries.Stroke tag stroke) = Placed tag stroke.now
item_of (entries.Tombstone tag) = Withdrawn tag

-- the number that is kept is the length of the piece's frame
abbrev pub IsOpenMeasured : OpenPiece → Type 0
IsOpenMeasured p = p.length ≡ frame_length p.state
