-- Pairs of pixels in one row or in two rows that touch, by their columns. Only the steps of growing have these words in
-- their contracts; which pixels are neighbours stands in `specs/Neighbours.antt` of `grid_core`.
use Rattle.std.specs.Prelude.{◌≡◌, ℕ, ◌+◌, ◌<◌, ◌≤◌, ◌⊎◌, Bool, IsTrue, List, length, slice_index, min, Contains}
use Rattle.grid_core.specs.{declared.conn.Conn.Conn, Neighbours.apart, Raster.max_pixels}
use Rattle.grid_core.specs.declared.conn.Conn.TheVariants.{Four, Eight}

-- none of the values is greater, and it is one of them where it is above 0
pub record IsGreatest (values : List ℕ) (greatest : ℕ) : Type 0 where
  pub each : (k : ℕ) → k < length values → slice_index values k ≤ greatest
  pub some : (greatest ≡ 0) ⊎ ((k : ℕ) × (k < length values) × (slice_index values k ≡ greatest))

-- the rows are equally long
pub record AreRows (raising limits raised : List ℕ) : Type 0 where
  pub from : length raising ≡ length raised
  pub mask : length limits ≡ length raised

-- the rows are equally long, and their cells begin at this one
pub record AreRowsAt (first : ℕ) (raising limits raised : List ℕ) : Type 0 where
  pub from : length raising ≡ length raised
  pub mask : length limits ≡ length raised
  pub cells : first + length raised ≤ max_pixels

-- the pixels at these columns of two rows that touch are neighbours
abbrev pub AreBeside : Conn → ℕ → ℕ → Type 0
AreBeside Four a b = a ≡ b
AreBeside Eight a b = apart a b ≤ 1

-- the columns are next to one another
abbrev pub AreAside : ℕ → ℕ → Type 0
AreAside a b = apart a b ≡ 1

-- no pixel of the first row raises the one in the same column of the other, as far as the other's mask lets it
abbrev pub IsClosedStraight : List ℕ → List ℕ → List ℕ → Type 0
IsClosedStraight from mask to =
    (k : ℕ) → k < length to → min (slice_index from k) (slice_index mask k) ≤ slice_index to k

-- no pixel of the first row raises a pixel of the other in a column beside it, as far as the other's mask lets it
abbrev pub IsClosedTo : (ℕ → ℕ → Type 0) → List ℕ → List ℕ → List ℕ → Type 0
IsClosedTo IsBeside from mask to =
    (a b : ℕ) → a < length to → b < length to → IsBeside a b
    → min (slice_index from a) (slice_index mask b) ≤ slice_index to b

-- the cell is that of a pixel of the first row, whose cells begin at `first`, that raises the one in the same column of
-- the other, as far as the other's mask lets it
pub record RaisesStraight (first : ℕ) (from mask to : List ℕ) (cell : ℕ) : Type 0 where
  pub column : ℕ
  pub within : column < length to
  pub lower : slice_index to column < min (slice_index from column) (slice_index mask column)
  pub place : first + column ≡ cell

-- the cell is that of a pixel of the first row, whose cells begin at `first`, that raises one of the other in a column
-- beside it, as far as the other's mask lets it
pub record RaisesTo (IsBeside : ℕ → ℕ → Type 0) (first : ℕ) (from mask to : List ℕ) (cell : ℕ) : Type 0 where
  pub column : ℕ
  pub other : ℕ
  pub within : column < length to
  pub other_within : other < length to
  pub beside : IsBeside column other
  pub lower : slice_index to other < min (slice_index from column) (slice_index mask other)
  pub place : first + column ≡ cell

-- the cell is one of those from `first` to before `end`
abbrev pub IsAmong : ℕ → ℕ → ℕ → Type 0
IsAmong first end cell = (first ≤ cell) × (cell < end)

-- such cells have joined the queue: it has what it had, each cell that is new is such a cell, and if there was room
-- then each such cell is in it; else it is not empty
pub record HaveJoined (IsSuch : ℕ → Type 0) (room : Bool) (old new : List ℕ) : Type 0 where
  pub kept : (i : ℕ) → Contains old i → Contains new i
  pub each : (i : ℕ) → Contains new i → Contains old i ⊎ IsSuch i
  pub every : IsTrue room → (i : ℕ) → IsSuch i → Contains new i
  pub full : IsTrue room ⊎ (0 < length new)
