-- How a hand follows what it raises. Only private functions have these words in their contracts.
use Rattle.std.specs.Prelude.{◌+◌, ◌<◌, ◌⊎◌, Contains, IsTrue, List, count_by, ℕ, ◌≡◌, ◌≤◌}
use Rattle.grid_core.specs.declared.pixel.Pixel.{Pixel}
use Rattle.live_board.specs.Rounds.{AreAround, HasTouched, Touch, has_risen}
use Rattle.live_board.specs.Seats.{Adds, IsFactOf, IsOf, raised_fact}
use Rattle.live_board.specs.Words.{IsOn, mask_of, number}
use Rattle.live_board.specs.Floods.{HasSpread}
use Rattle.live_board.specs.{declared.fact.Fact.Fact, declared.rule.Ground.Ground, declared.rule.SeatView.SeatView}
use Rattle.live_board.specs.declared.trail.Trail.{Trail}

-- the row is one of those that the trail names
abbrev pub IsNamed : Trail → ℕ → Type 0
IsNamed trail y = (trail.first ≤ y) × (y < trail.end)

-- the fact waits, or its row is named
abbrev pub IsLeft : Trail → Fact → Type 0
IsLeft trail f = Contains trail.waiting.items f ⊎ IsNamed trail f.pixel.y

-- what was left is still left
abbrev pub KeepsLeft : Trail → Trail → Type 0
KeepsLeft was now = (f : Fact) → IsLeft was f → IsLeft now f

-- what waits are facts of the hand in its generation, of pixels on the board, and so are the rows
pub record IsTrailOf (base : Ground) (v : SeatView) (trail : Trail) : Type 0 where
  pub facts : (f : Fact) → Contains trail.waiting.items f → IsFactOf v f
  pub on : (f : Fact) → Contains trail.waiting.items f → IsOn base f.pixel
  pub within : trail.end ≤ (mask_of base).height

-- the pixels were raised from the fact, one after another, so many of them rose, and each of these is left
pub record Trails (base : Ground) (from : Fact) (qs : List Pixel) (count : ℕ) (old new : SeatView) (was now : Trail)
    : Type 0 where
  pub touches : List Touch
  pub touched : HasTouched base touches old new
  pub each : (t : Touch) → Contains touches t → (q : Pixel) × Contains qs q × (t.0 ≡ raised_fact base from q)
  pub all : (q : Pixel) → Contains qs q → (found : ℕ) × Contains touches (raised_fact base from q, found)
  pub count_is : count ≡ count_by has_risen touches
  pub left : (t : Touch) → Contains touches t → IsTrue (has_risen t) → IsLeft now t.0
  pub keeps : KeepsLeft was now

-- so it was with each neighbour of the fact's pixel
abbrev pub HasTrailed : Ground → Fact → ℕ → SeatView → SeatView → Trail → Trail → Type 0
HasTrailed base from count old new was now =
    (around : List Pixel) × AreAround base from.pixel around × Trails base from around count old new was now

-- the fact has spread, or is left
abbrev pub IsServed : Ground → SeatView → Trail → Fact → Type 0
IsServed base v trail f = HasSpread base v f ⊎ IsLeft trail f

-- the pixel was read, and where it has a value of the seat's generation, that has spread or is left
pub record IsReadAt (base : Ground) (v : SeatView) (trail : Trail) (touches : List Touch) (p : Pixel) : Type 0 where
  pub loaded : Fact
  pub of : IsOf p loaded
  pub there : Contains touches (loaded, number loaded)
  pub served : loaded.generation ≡ v.generation → IsServed base v trail loaded

-- since it started, the seat has read the pixels and raised others, and each that rose has spread or is left
pub record IsGrowing (base : Ground) (pixels : List Pixel) (count : ℕ) (started v : SeatView) (trail : Trail)
    : Type 0 where
  pub touches : List Touch
  pub touched : HasTouched base touches started v
  pub read : (p : Pixel) → Contains pixels p → IsReadAt base v trail touches p
  pub served : (t : Touch) → Contains touches t → IsTrue (has_risen t) → IsServed base v trail t.0
  pub count_is : count ≡ count_by has_risen touches

-- so it goes on, by so many raises more that rose
abbrev pub GrowsOn : Ground → ℕ → SeatView → SeatView → Trail → Trail → Type 0
GrowsOn base more v w was now =
    (pixels : List Pixel) (count : ℕ) (started : SeatView) → IsGrowing base pixels count started v was
    → IsGrowing base pixels (count + more) started w now

-- a pixel was read, and what it has of the seat's generation is left
pub record IsReadIn (base : Ground) (p : Pixel) (old new : SeatView) (was now : Trail) : Type 0 where
  pub loaded : Fact
  pub of : IsOf p loaded
  pub adds : Adds base loaded old new
  pub is_loaded : adds.found ≡ number loaded
  pub left : loaded.generation ≡ old.generation → IsLeft now loaded
  pub keeps : KeepsLeft was now
