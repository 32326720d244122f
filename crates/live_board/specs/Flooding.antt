-- The steps of a flood, cell by cell: the cell of a pixel is its place in raster order. Only private functions have
-- these words in their contracts.
use Rattle.std.specs.Prelude.{◌+◌, ◌-◌, ◌<◌, ◌⊎◌, Bool, Contains, IsTrue, List, count_by, length, min, slice_index, ℕ}
use Rattle.std.specs.Prelude.{◌≡◌, ◌≤◌, ◌↔◌}
use Rattle.grid_core.specs.{Raster.Raster, Raster.value_at, declared.pixel.Pixel.Pixel}
use Rattle.live_board.specs.Floods.{Knows}
use Rattle.live_board.specs.Rounds.{HasTouched, Touch, has_risen, pixel_after}
use Rattle.live_board.specs.Seats.{Adds, IsBeside, IsOf, raised_fact}
use Rattle.live_board.specs.Words.{Supports, fact, mask_of, number}
use Rattle.live_board.specs.{declared.fact.Fact.Fact, declared.flood.Reach.Reach, declared.rule.Ground.Ground}
use Rattle.live_board.specs.declared.rule.SeatView.{SeatView}

-- the cells are as many as the mask's, and none is above it
abbrev pub AreLow : Ground → List ℕ → Type 0
AreLow base cells =
    (length cells ≡ length (mask_of base).cells)
    × ((k : ℕ) → k < length cells → slice_index cells k ≤ slice_index (mask_of base).cells k)

-- a pixel was read: the level is its value in the seat's generation, or 0 where what was loaded is of another
pub record HasLevel (base : Ground) (p : Pixel) (level : ℕ) (old new : SeatView) : Type 0 where
  pub loaded : Fact
  pub of : IsOf p loaded
  pub adds : Adds base loaded old new
  pub is_loaded : adds.found ≡ number loaded
  pub same : loaded.generation ≡ old.generation → level ≡ loaded.value
  pub other : (loaded.generation ≡ old.generation → ⊥) → level ≡ 0

-- the step was one on a cell from `from` to before `to`, and what it left there, of the generation, is no more than the
-- cell has, as far as the mask lets it
pub record IsLowAt (base : Ground) (from to : ℕ) (cells : List ℕ) (generation : ℕ) (t : Touch) : Type 0 where
  pub cell : ℕ
  pub after : from ≤ cell
  pub before : cell < to
  pub pixel : t.0.pixel ≡ pixel_after base cell
  pub low : t.0.generation ≡ generation
      → min t.0.value (slice_index (mask_of base).cells cell) ≤ slice_index cells cell

-- the cells from `from` to before `to` have been read
pub record HasTakenIn (base : Ground) (from to : ℕ) (cells : List ℕ) (old new : SeatView) : Type 0 where
  pub touches : List Touch
  pub touched : HasTouched base touches old new
  pub none_rose : count_by has_risen touches ≡ 0
  pub read :
      (k : ℕ) → from ≤ k → k < to
      → (loaded : Fact) × IsOf (pixel_after base k) loaded × Contains touches (loaded, number loaded)
  pub each : (t : Touch) → Contains touches t → IsLowAt base from to cells new.generation t
  pub known :
      (k : ℕ) → from ≤ k → k < to
      → (slice_index cells k ≡ 0) ⊎ Knows new (pixel_after base k) (slice_index cells k)

-- whatever marker supports what the seat knows in its generation, supports the value at the pixel
abbrev pub IsFounded : Ground → SeatView → Pixel → ℕ → Type 0
IsFounded base v p value =
    (marker : Raster)
    → ((f : Fact) → Contains v.facts f → f.generation ≡ v.generation → Supports base marker f.pixel f.value)
    → Supports base marker p value

-- so it is with the cells from `from` to before `to`
abbrev pub AreFounded : Ground → SeatView → ℕ → ℕ → List ℕ → Type 0
AreFounded base v from to cells =
    (k : ℕ) → from ≤ k → k < to → IsFounded base v (pixel_after base k) (slice_index cells k)

-- a pixel was raised to a value in the seat's generation, and the answer is true where that step found less there
pub record HasLifted (base : Ground) (p : Pixel) (value : ℕ) (rose : Bool) (old new : SeatView) : Type 0 where
  pub adds : Adds base (fact p old.generation value) old new
  pub rose_is : IsTrue rose ↔ (adds.found < number (fact p old.generation value))

-- the step raised one of the cells to what it has
pub record IsGivenAt (base : Ground) (from to : ℕ) (cells : List ℕ) (generation : ℕ) (t : Touch) : Type 0 where
  pub cell : ℕ
  pub after : from ≤ cell
  pub before : cell < to
  pub is : t.0 ≡ fact (pixel_after base cell) generation (slice_index cells cell)

-- the pixels of the cells from `from` to before `to` have been raised to what these have
pub record HasGivenOut (base : Ground) (from to : ℕ) (cells : List ℕ) (count : ℕ) (old new : SeatView) : Type 0 where
  pub touches : List Touch
  pub touched : HasTouched base touches old new
  pub each : (t : Touch) → Contains touches t → IsGivenAt base from to cells new.generation t
  pub known :
      (k : ℕ) → from ≤ k → k < to
      → Contains new.facts (fact (pixel_after base k) new.generation (slice_index cells k))
  pub count_is : count ≡ count_by has_risen touches

-- the fact that a pixel has the image's value
abbrev pub drawn_fact : ℕ → Raster → Pixel → Fact
drawn_fact generation image p = fact p generation (value_at image p)

-- the step raised a pixel beside one of the first pixels of the row, so many of them, by what the image has at that one
pub record IsPassedAt (base : Ground) (y columns generation : ℕ) (image : Raster) (t : Touch) : Type 0 where
  pub by : Pixel
  pub to : Pixel
  pub row : by.y ≡ y
  pub within : by.x < columns
  pub beside : IsBeside base by to
  pub is : t.0 ≡ raised_fact base (drawn_fact generation image by) to

-- the neighbours of the first pixels of the row, so many of them, have been raised by what the image has at these
pub record HasPassedOn (base : Ground) (y columns : ℕ) (image : Raster) (count : ℕ) (old new : SeatView) : Type 0 where
  pub touches : List Touch
  pub touched : HasTouched base touches old new
  pub each : (t : Touch) → Contains touches t → IsPassedAt base y columns new.generation image t
  pub all :
      (p q : Pixel) → p.y ≡ y → p.x < columns → IsBeside base p q
      → (found : ℕ) × Contains touches (raised_fact base (drawn_fact new.generation image p) q, found)
  pub count_is : count ≡ count_by has_risen touches

-- the hand knows of each pixel of the row what the image has there
abbrev pub IsRowKnown : Ground → ℕ → Raster → SeatView → Type 0
IsRowKnown base y image v =
    (x : ℕ) → x < (mask_of base).width
    → Contains v.facts (drawn_fact v.generation image (record { x = x; y = y }))

-- the answer's rows are those around the row, as far as there are any
abbrev pub IsAround : ℕ → ℕ → Reach → Type 0
IsAround y height answer = (answer.first ≤ y - 1) × (min (y + 2) height ≤ answer.end)

-- the answer's rows are those from `first` to before `end`, and those around the first and the last where they raised
pub record IsReachOf (first end height above below : ℕ) (answer : Reach) : Type 0 where
  pub low : answer.first ≤ first
  pub high : end ≤ answer.end
  pub within : answer.end ≤ height
  pub quiet : above ≡ 0 → below ≡ 0 → (answer.first ≡ first) × (answer.end ≡ end)
  pub up : (above ≡ 0) ⊎ IsAround first height answer
  pub down : (below ≡ 0) ⊎ IsAround (end - 1) height answer
