-- How the pieces of a state are filled, item by item.
use Rattle.std.specs.Prelude.{◌≡◌, ℕ, ◌+◌, ◌<◌, ◌≤◌, List, [], ◌∷◌, ◌++◌, nat_le, if◌then◌else◌}
use Rattle.std.specs.List.{AllByRecursion}
use Rattle.stroke_lattice.specs.{declared.split.Pieces.Pieces, declared.split.TheConstants.MIN_PIECE_BYTES}
use Rattle.stroke_lattice.specs.State.{State, nothing}
use Rattle.stroke_lattice.specs.Pieces.{Item, Placed, Withdrawn, items_of, frame_length, with_item, fits, filled}
use Rattle.stroke_lattice.specs.Pieces.{pieces_of, AllFit}

-- the pieces that take no more, and the last one
pub record Filling : Type 0 where
  pub full : List State
  pub last : State

-- the last piece takes no more, and the next one begins
abbrev pub turned : Filling → Filling
turned f = record { full = f.full ++ f.last ∷ []; last = nothing }

-- the filling, turned where the frame of the last piece has no room for so many bytes more
abbrev pub with_room : ℕ → Filling → ℕ → Filling
with_room max f bytes = if nat_le (frame_length f.last + bytes) max then f else turned f

-- the filling with one item more in the last piece
abbrev pub put_in : Filling → Item → Filling
put_in f item = record f { last = with_item f.last item }

-- the filling after the next item
abbrev pub added : ℕ → Filling → Item → Filling
added max f item = if fits max f.last item then put_in f item else put_in (turned f) item

-- the first item goes before the second
abbrev pub ComesBefore : Item → Item → Type 0
ComesBefore (Placed a x) (Placed b y) = a < b
ComesBefore (Placed a x) (Withdrawn b) = Unit {0}
ComesBefore (Withdrawn a) (Placed b y) = ⊥
ComesBefore (Withdrawn a) (Withdrawn b) = a < b

-- all these items go before the one
abbrev pub AllBefore : List Item → Item → Type 0
AllBefore items item = AllByRecursion (λ other. ComesBefore other item) items

-- each item goes before all later ones
abbrev pub AreInOrder : List Item → Type 0
AreInOrder [] = Unit {0}
AreInOrder (item ∷ rest) = AllByRecursion (λ other. ComesBefore item other) rest × AreInOrder rest

-- the pieces of the state will be there once the items that are left are added
pub record IsFilling (max : ℕ) (s : State) (f : Filling) (left : List Item) : Type 0 where
  pub whole : f.full ++ filled max f.last left ≡ pieces_of max s
  pub full_fit : AllFit max f.full
  pub last_fits : frame_length f.last ≤ max
  pub order : AreInOrder (items_of f.last ++ left)

-- what the fields of the code's pieces stand for
abbrev pub filling : Pieces → Filling
filling p = record { full = p.full.items; last = p.last }

-- the number that is kept is the length of the last piece's frame
abbrev pub IsMeasured : Pieces → Type 0
IsMeasured p = p.length ≡ frame_length p.last

-- the pieces can take the item next: it goes after all items of the last one, whose frame is short enough
pub record CanTake (max : ℕ) (p : Pieces) (item : Item) : Type 0 where
  pub least : MIN_PIECE_BYTES ≤ max
  pub measured : IsMeasured p
  pub fits : frame_length p.last ≤ max
  pub before : AllBefore (items_of p.last) item

-- the new pieces are the old ones with the item
pub record HasTaken (max : ℕ) (item : Item) (old new : Pieces) : Type 0 where
  pub measured : IsMeasured new
  pub added : filling new ≡ added max (filling old) item

-- the pieces are those of the state, but for the items that are left
pub record AreFilled (max : ℕ) (s : State) (p : Pieces) (left : List Item) : Type 0 where
  pub least : MIN_PIECE_BYTES ≤ max
  pub measured : IsMeasured p
  pub so_far : IsFilling max s (filling p) left
