-- How a keeper plants its marker, cell by cell. Only private functions have these words in their contracts.
use Rattle.std.specs.Prelude.{◌<◌, Contains, slice_index, ℕ, ◌≡◌, ◌≤◌}
use Rattle.grid_core.specs.Raster.{Raster}
use Rattle.live_board.specs.{Rounds.pixel_after, Seats.planted_fact, Words.fact, Words.size_of}
use Rattle.live_board.specs.{declared.fact.Fact.Fact, declared.rule.Ground.Ground, declared.rule.SeatView.SeatView}

-- nothing but facts came to the keeper's view, and it has planted the pixel of the cell
pub record HasPlantedCell (base : Ground) (cell : ℕ) (old new : SeatView) : Type 0 where
  pub generation : new.generation ≡ old.generation
  pub marker : new.marker ≡ old.marker
  pub known : (f : Fact) → Contains old.facts f → Contains new.facts f
  pub planted : Contains new.facts (planted_fact new (pixel_after base cell))

-- the same of the cells from `from` to before `to`
pub record HasPlantedIn (base : Ground) (from to : ℕ) (old new : SeatView) : Type 0 where
  pub generation : new.generation ≡ old.generation
  pub marker : new.marker ≡ old.marker
  pub known : (f : Fact) → Contains old.facts f → Contains new.facts f
  pub planted : (k : ℕ) → from ≤ k → k < to → Contains new.facts (planted_fact new (pixel_after base k))

-- the view knows of the pixel of each cell that it has the image's value, in the keeper's generation
abbrev pub KnowsImage : Ground → Raster → SeatView → Type 0
KnowsImage base image v =
    (k : ℕ) → k < size_of base
    → Contains v.facts (fact (pixel_after base k) v.generation (slice_index image.cells k))
