-- The cells around a cell, and what raising them by it does. Only private functions have these words in their
-- contracts.
use Rattle.std.specs.Prelude.{◌≡◌, ℕ, ◌+◌, ◌<◌, ◌≤◌, ◌⊎◌, List, Option, None, Some, length, min, max, slice_index}
use Rattle.std.specs.Prelude.{Contains}
use Rattle.grid_core.specs.{declared.conn.Conn.Conn, declared.pixel.Pixel.Pixel, declared.rect.Rect.Rect}
use Rattle.grid_core.specs.{Neighbours.AreNeighbours, Raster.IsInside, Raster.headroom}
use Rattle.raster_sweeps.specs.{declared.neighbourhood.Cross.Cross, declared.neighbourhood.Neighbour.Neighbour}
use Rattle.raster_sweeps.specs.{declared.neighbourhood.RowSpan.RowSpan, declared.neighbourhood.Spans.Spans}
use Rattle.raster_sweeps.specs.Growth.{cell_of}

-- the cell is in the span
abbrev pub InSpan : RowSpan → ℕ → Type 0
InSpan span k = (span.first ≤ k) × (k < span.end)

-- the cell is in one of the three spans
abbrev pub IsAround : Spans → ℕ → Type 0
IsAround spans k = InSpan spans.above k ⊎ (InSpan spans.beside k ⊎ InSpan spans.below k)

-- it is the cell of the place that there is
abbrev pub IsCell : Option Neighbour → ℕ → Type 0
IsCell None k = ⊥
IsCell (Some place) k = k ≡ place.cell

-- the cell is one of the four of the cross
abbrev pub IsOnCross : Cross → ℕ → Type 0
IsOnCross cross k = (IsCell cross.above k ⊎ IsCell cross.left k) ⊎ (IsCell cross.right k ⊎ IsCell cross.below k)

-- the cells at these places are those of the neighbours of the pixel in the rectangle, and no others but its own
pub record AreAround (conn : Conn) (rect : Rect) (width : ℕ) (p : Pixel) (at : ℕ → Type 0) : Type 0 where
  pub each : (k : ℕ) → at k
      → (q : Pixel) × IsInside rect.w rect.h q × (cell_of rect width q ≡ k) × ((q ≡ p) ⊎ AreNeighbours conn p q)
  pub every : (q : Pixel) → IsInside rect.w rect.h q → AreNeighbours conn p q → at (cell_of rect width q)

-- the cells at these places are raised to the level, as far as the mask lets them, and the others stay
pub record IsRaised (at : ℕ → Type 0) (mask : List ℕ) (level : ℕ) (before after : List ℕ) : Type 0 where
  pub filled : length after ≡ length before
  pub raised : (k : ℕ) → at k → slice_index after k ≡ max (slice_index before k) (min level (slice_index mask k))
  pub each : (k : ℕ) → (slice_index after k ≡ slice_index before k)
      ⊎ (at k × (slice_index after k ≡ max (slice_index before k) (min level (slice_index mask k))))

-- the queue has what it had, and each cell at these places that rises
pub record AreQueued (at : ℕ → Type 0) (mask : List ℕ) (level : ℕ) (before old new : List ℕ) : Type 0 where
  pub kept : (i : ℕ) → Contains old i → Contains new i
  pub added : (k : ℕ) → at k → slice_index before k < min level (slice_index mask k) → Contains new k

-- the cells at these places are raised, and those that rise have joined the queue, if there was room for all of them;
-- the queue grew by no more than the headroom fell
pub record AreSpread (at : ℕ → Type 0) (mask : List ℕ) (level : ℕ) (before after old new : List ℕ) (Room : Type 0)
    : Type 0 where
  pub raised : IsRaised at mask level before after
  pub inside : (i : ℕ) → Contains new i → Contains old i ⊎ at i
  pub queued : Room → AreQueued at mask level before old new
  pub count : Room → length old ≤ length new
  pub effort : Room → length new + headroom after ≤ length old + headroom before
  pub fell : Room ⊎ (headroom after < headroom before)
  pub kept : headroom after ≤ headroom before
  pub less : (k : ℕ) → at k → slice_index before k < min level (slice_index mask k) → headroom after < headroom before
