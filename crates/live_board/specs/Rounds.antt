-- A round: each pixel is read once, in raster order, and where it has a value, each neighbour is raised once.
use Rattle.std.specs.Prelude.{◌%◌, ◌+◌, ◌++◌, ◌-◌, ◌/◌, Bool, Contains, List, [], count_by, false, map, nat_lt, true, ℕ}
use Rattle.std.specs.Prelude.{◌↔◌, ◌∷◌, ◌≡◌}
use Prim.Native.Nat.{suc, zero}
use Rattle.grid_core.specs.{Neighbours.AreNeighbours, Neighbours.IsInRasterOrder, declared.pixel.Pixel.Pixel}
use Rattle.live_board.specs.Seats.{HasRaised, HasRead, HasStarted, IsBeside, IsOf, raised_fact}
use Rattle.live_board.specs.Words.{IsOn, mask_of, number, place_of, size_of}
use Rattle.live_board.specs.{declared.fact.Fact.Fact, declared.fact.Seen.Seen, declared.fact.Seen.TheVariants.Newer}
use Rattle.live_board.specs.{declared.fact.Seen.TheVariants.Older, declared.fact.Seen.TheVariants.Value}
use Rattle.live_board.specs.{declared.rule.Ground.Ground, declared.rule.SeatView.SeatView}

-- 1 where it is true
abbrev pub one_if : Bool → ℕ
one_if true = 1
one_if false = 0

-- the pixels are raised from the fact, one after another, and so many of them rose
abbrev pub Raises : Ground → Fact → List Pixel → ℕ → SeatView → SeatView → Type 0
Raises base from [] count old new = (count ≡ 0) × (new ≡ old)
Raises base from (q ∷ rest) count old new =
    (rose : Bool) × (after : SeatView) × (more : ℕ) × HasRaised base from q rose old after
    × Raises base from rest more after new × (count ≡ one_if rose + more)

-- the neighbours of the pixel on the board, in raster order
pub record AreAround (base : Ground) (p : Pixel) (around : List Pixel) : Type 0 where
  pub members : (q : Pixel) → Contains around q ↔ (AreNeighbours base.conn p q × IsOn base q)
  pub order : IsInRasterOrder around

-- where a value was seen its neighbours are raised, else nothing is done
abbrev pub Spreads : Ground → Seen → ℕ → SeatView → SeatView → Type 0
Spreads base (Value f) count old new =
    (around : List Pixel) × AreAround base f.pixel around × Raises base f around count old new
Spreads base Older count old new = (count ≡ 0) × (new ≡ old)
Spreads base Newer count old new = (count ≡ 0) × (new ≡ old)

-- the pixel is read and spreads, and so many neighbours rose
pub record Visits (base : Ground) (p : Pixel) (count : ℕ) (old new : SeatView) : Type 0 where
  pub seen : Seen
  pub after : SeatView
  pub read : HasRead base p seen old after
  pub spreads : Spreads base seen count after new

-- the pixel that comes after so many others, in raster order
abbrev pub pixel_after : Ground → ℕ → Pixel
pixel_after base k = record { x = k % (mask_of base).width; y = k / (mask_of base).width }

-- the first pixels in raster order, so many of them, are visited
abbrev pub Goes : Ground → ℕ → ℕ → SeatView → SeatView → Type 0
Goes base zero count old new = (count ≡ 0) × (new ≡ old)
Goes base (suc k) count old new =
    (middle : SeatView) × (before here : ℕ) × Goes base k before old middle
    × Visits base (pixel_after base k) here middle new × (count ≡ before + here)

-- a round: the generation is learnt, and then all pixels are visited. So many of its raises rose, all of them counted
pub record IsRound (base : Ground) (count : ℕ) (old new : SeatView) : Type 0 where
  pub started : SeatView
  pub start : HasStarted old started
  pub goes : Goes base (size_of base) count started new

-- the number that comes after `n` others, of those from `first` to before `end`, upwards or back
abbrev pub nth : ℕ → ℕ → Bool → ℕ → ℕ
nth first end false n = first + n
nth first end true n = end - 1 - n

-- the pixels that `at` gives, so many of them, are visited in this order
abbrev pub GoesOver : Ground → (ℕ → Pixel) → ℕ → ℕ → SeatView → SeatView → Type 0
GoesOver base at zero count old new = (count ≡ 0) × (new ≡ old)
GoesOver base at (suc k) count old new =
    (middle : SeatView) × (before here : ℕ) × GoesOver base at k before old middle
    × Visits base (at k) here middle new × (count ≡ before + here)

-- the pixels of a row, from the left or back
abbrev pub in_row : Ground → ℕ → Bool → ℕ → Pixel
in_row base y back k = record { x = nth 0 (mask_of base).width back k; y = y }

-- the rows that `row` gives, so many of them, are gone over in this order, each from the left or back
abbrev pub GoesThrough : Ground → (ℕ → ℕ) → Bool → ℕ → ℕ → SeatView → SeatView → Type 0
GoesThrough base row back zero count old new = (count ≡ 0) × (new ≡ old)
GoesThrough base row back (suc k) count old new =
    (middle : SeatView) × (before here : ℕ) × GoesThrough base row back k before old middle
    × GoesOver base (in_row base (row k) back) (mask_of base).width here middle new × (count ≡ before + here)

-- a round over the rows from `first` to before `end`, forth or back: the generation is learnt, and then their pixels
-- are visited
pub record IsRoundOver (base : Ground) (first end : ℕ) (back : Bool) (count : ℕ) (old new : SeatView) : Type 0 where
  pub started : SeatView
  pub start : HasStarted old started
  pub goes : GoesThrough base (nth first end back) back (end - first) count started new

-- a step on the word of a pixel, by the fact that it left and the number that it found there
abbrev pub Touch : Type 0
Touch = Fact × ℕ

-- its word, and what it found there
abbrev pub entry_of : Ground → Touch → ℕ × ℕ
entry_of base touch = (place_of base touch.0.pixel, touch.1)

-- whether the pixel rose: less was found there than was left
abbrev pub has_risen : Touch → Bool
has_risen touch = nat_lt touch.1 (number touch.0)

-- the seat took these steps on pixels, one after another, and no other
pub record HasTouched (base : Ground) (touches : List Touch) (old new : SeatView) : Type 0 where
  pub generation : new.generation ≡ old.generation
  pub facts : new.facts ≡ old.facts ++ map (λ (touch : Touch). touch.0) touches
  pub steps : new.steps ≡ old.steps ++ map (entry_of base) touches

-- by one of these steps the pixel was read, and where it had a value of the generation, each neighbour was raised to
-- that value, as far as the mask lets it
pub record IsSpread (base : Ground) (generation : ℕ) (touches : List Touch) (p : Pixel) : Type 0 where
  pub loaded : Fact
  pub of : IsOf p loaded
  pub read : Contains touches (loaded, number loaded)
  pub raised :
      loaded.generation ≡ generation → (q : Pixel) → IsBeside base p q
      → (found : ℕ) × Contains touches (raised_fact base loaded q, found)

-- what a round leaves, in whatever order: the generation was learnt, each pixel was read, and where it had a value each
-- neighbour was raised. The count is that of the pixels that rose, each as often as it did
pub record HasGoneRound (base : Ground) (count : ℕ) (old new : SeatView) : Type 0 where
  pub started : SeatView
  pub start : HasStarted old started
  pub touches : List Touch
  pub touched : HasTouched base touches started new
  pub spread : (p : Pixel) → IsOn base p → IsSpread base new.generation touches p
  pub count_is : count ≡ count_by has_risen touches
