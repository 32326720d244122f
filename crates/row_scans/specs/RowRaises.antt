-- What a scan does to a row. Only the steps of growing have these words in their contracts.
use Rattle.std.specs.Prelude.{◌≡◌, ℕ, ◌+◌, ◌-◌, ◌<◌, ◌≤◌, ◌⊎◌, List, length, slice_index, slice_range, min, max}
use Rattle.grid_core.specs.declared.conn.Conn.{Conn}
use Rattle.row_scans.specs.Rows.{AreBeside, IsClosedTo}
use Rattle.row_scans.specs.declared.row_raises.Reach.{Reach}

-- each value is raised by the one in the same column of another row, as far as the mask lets it
pub record IsRaisedStraight (mask by before after : List ℕ) : Type 0 where
  pub long : length after ≡ length before
  pub raised : (k : ℕ) → k < length before
      → slice_index after k ≡ max (slice_index before k) (min (slice_index by k) (slice_index mask k))

-- no value falls, and each that rises is raised by one of another row in a column beside it, as far as the mask lets it
pub record IsRaisedBy (IsBeside : ℕ → ℕ → Type 0) (mask by before after : List ℕ) : Type 0 where
  pub long : length after ≡ length before
  pub rises : (k : ℕ) → k < length before → slice_index before k ≤ slice_index after k
  pub raised : (k : ℕ) → k < length before → (slice_index after k ≡ slice_index before k)
      ⊎ ((j : ℕ) × (j < length before) × IsBeside k j
      × (slice_index after k ≤ min (slice_index by j) (slice_index mask k)))

-- each value is raised by the new one to its left, as far as the mask lets it
pub record IsRaisedFromLeft (mask before after : List ℕ) : Type 0 where
  pub long : length after ≡ length before
  pub first : slice_index after 0 ≡ slice_index before 0
  pub raised : (k : ℕ) → k + 1 < length before
      → slice_index after (k + 1)
      ≡ max (slice_index before (k + 1)) (min (slice_index after k) (slice_index mask (k + 1)))

-- each value is raised by the new one to its right, as far as the mask lets it
pub record IsRaisedFromRight (mask before after : List ℕ) : Type 0 where
  pub long : length after ≡ length before
  pub last : (k : ℕ) → k + 1 ≡ length before → slice_index after k ≡ slice_index before k
  pub raised : (k : ℕ) → k + 1 < length before
      → slice_index after k ≡ max (slice_index before k) (min (slice_index after (k + 1)) (slice_index mask k))

-- sixteen values of a row from `start` on, and those of the mask
pub record IsReachAt (start : ℕ) (mask row : List ℕ) (reach : Reach) : Type 0 where
  pub levels : (i : ℕ) → i < 16 → slice_index reach.levels i ≡ slice_index row (start + i)
  pub caps : (i : ℕ) → i < 16 → slice_index reach.caps i ≡ slice_index mask (start + i)

-- each value is raised by the one so many to its left, as far as its cap lets it, and its cap falls to that one's
pub record IsTwiceFromLeft (by : ℕ) (before after : Reach) : Type 0 where
  pub kept : (i : ℕ) → i < by → i < 16 → slice_index after.levels i ≡ slice_index before.levels i
  pub stays : (i : ℕ) → i < by → i < 16 → slice_index after.caps i ≡ slice_index before.caps i
  pub levels : (i : ℕ) → by ≤ i → i < 16 → slice_index after.levels i
      ≡ max (slice_index before.levels i) (min (slice_index before.levels (i - by)) (slice_index before.caps i))
  pub caps : (i : ℕ) → by ≤ i → i < 16 → slice_index after.caps i
      ≡ min (slice_index before.caps i) (slice_index before.caps (i - by))

-- each value is raised by the one so many to its right, as far as its cap lets it, and its cap falls to that one's
pub record IsTwiceFromRight (by : ℕ) (before after : Reach) : Type 0 where
  pub kept : (i : ℕ) → 16 ≤ i + by → i < 16 → slice_index after.levels i ≡ slice_index before.levels i
  pub stays : (i : ℕ) → 16 ≤ i + by → i < 16 → slice_index after.caps i ≡ slice_index before.caps i
  pub levels : (i : ℕ) → i + by < 16 → slice_index after.levels i
      ≡ max (slice_index before.levels i) (min (slice_index before.levels (i + by)) (slice_index before.caps i))
  pub caps : (i : ℕ) → i + by < 16 → slice_index after.caps i
      ≡ min (slice_index before.caps i) (slice_index before.caps (i + by))

-- sixteen values from `start` on are what they reach, or what the level from beyond raises them to
pub record IsLetIn (start level : ℕ) (reach : Reach) (before after : List ℕ) : Type 0 where
  pub long : length after ≡ length before
  pub inside : (i : ℕ) → i < 16 → slice_index after (start + i)
      ≡ max (slice_index reach.levels i) (min level (slice_index reach.caps i))
  pub ahead : (k : ℕ) → k < start → slice_index after k ≡ slice_index before k
  pub behind : (k : ℕ) → start + 16 ≤ k → slice_index after k ≡ slice_index before k

-- two rows of so many cells, which begin at these places, lie in a list of cells, and have none in common
pub record AreApart (size source target cells : ℕ) : Type 0 where
  pub some : 0 < size
  pub source_within : source + size ≤ cells
  pub target_within : target + size ≤ cells
  pub apart : (source + size ≤ target) ⊎ (target + size ≤ source)

-- of a list of cells, as many from `target` on as the mask has are raised by as many from `source` on, so that none of
-- these can raise them further, and the others stay
pub record AreCellsRaised (conn : Conn) (mask : List ℕ) (source target : ℕ) (before after : List ℕ) : Type 0 where
  pub long : length after ≡ length before
  pub row : IsRaisedBy (AreBeside conn) mask (slice_range before source (source + length mask))
      (slice_range before target (target + length mask)) (slice_range after target (target + length mask))
  pub closed : IsClosedTo (AreBeside conn) (slice_range before source (source + length mask)) mask
      (slice_range after target (target + length mask))
  pub ahead : (i : ℕ) → i < target → slice_index after i ≡ slice_index before i
  pub behind : (i : ℕ) → target + length mask ≤ i → slice_index after i ≡ slice_index before i
