-- The pieces of a state, which of them comes next, and where it begins.
use Rattle.std.specs.Prelude.{◌≡◌, ℕ, ◌+◌, ◌<◌, ◌≤◌, ◌^◌, List, length, drop, slice_get, nat_lt, Option, Some, None}
use Rattle.std.specs.Prelude.{if◌then◌else◌, IsTrue, is_some}
use Rattle.std.specs.Option.{option_map_or}
use Rattle.stroke_lattice.specs.{declared.piece.Place.Place, Places.pieces_from, Places.pieces_behind}
use Rattle.stroke_lattice.specs.State.{State, IsBelow, nothing}
use Rattle.stroke_lattice.specs.Pieces.{pieces_of, strokes_of, tombstones_of}
use Rattle.spd_codec.specs.Spelling.{max_bytes}
use Rattle.studio.specs.{Shots.Shot, Chains.last_of}
use Rattle.link_nodes.specs.declared.cursor.Cursor.{Cursor}

-- the pieces of a state, each short enough for a frame
abbrev pub frame_pieces : State → List State
frame_pieces s = pieces_of max_bytes s

-- the piece behind the one of this number, or piece 0 where there is none such
abbrev pub next_after : Option ℕ → ℕ → ℕ
next_after None count = 0
next_after (Some i) count = if nat_lt (i + 1) count then i + 1 else 0

-- this is the piece behind the one of that number, or piece 0, and this is its number
pub record IsNextPiece (s : State) (last : Option ℕ) (i : ℕ) (piece : State) : Type 0 where
  pub number : i ≡ next_after last (length (frame_pieces s))
  pub stands : slice_get (frame_pieces s) i ≡ Some piece

-- the cursor is at a piece of this state, and knows where the next one begins, if there is one
pub record IsCursorOf (s : State) (cursor : Cursor) : Type 0 where
  pub strokes : cursor.strokes ≡ length (strokes_of s)
  pub tombstones : cursor.tombstones ≡ length (tombstones_of s)
  pub counted : length (frame_pieces s) < 2 ^ 64
  pub within : cursor.number < length (frame_pieces s)
  pub here : pieces_from max_bytes s cursor.place ≡ drop cursor.number (frame_pieces s)
  pub behind : pieces_behind max_bytes s cursor.behind ≡ drop (cursor.number + 1) (frame_pieces s)
  pub more : IsTrue (is_some cursor.behind) → cursor.number + 1 < length (frame_pieces s)

-- the piece of this number begins at the place; or there is none such, where there is no place
abbrev pub IsPlaceOf : State → ℕ → Option Place → Type 0
IsPlaceOf s i None = length (frame_pieces s) ≤ i
IsPlaceOf s i (Some place) =
    (i < length (frame_pieces s)) × (pieces_from max_bytes s place ≡ drop i (frame_pieces s))

-- the strokes of the last shot of the chain, and none where there is no shot
abbrev pub last_state : List Shot → State
last_state chain = option_map_or (λ shot. shot.state) (last_of chain) nothing

-- the cursor, if there is one, is of the last shot of the chain
abbrev pub IsOfLast : List Shot → Option Cursor → Type 0
IsOfLast chain kept = (cursor : Cursor) → kept ≡ Some cursor → IsCursorOf (last_state chain) cursor

-- the cursor, if there is one, is of a state below this one
abbrev pub IsOfLower : State → Option Cursor → Type 0
IsOfLower s kept = (cursor : Cursor) → kept ≡ Some cursor
    → (lower : State) × IsCursorOf lower cursor × IsBelow lower s
