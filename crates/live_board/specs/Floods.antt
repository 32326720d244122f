-- A flood: the pixels of some rows are read, what they have is grown there as far as the mask lets it, and each pixel
-- is raised to what it has grown to, and those beside the rows by them.
use Rattle.std.specs.Prelude.{◌<◌, Contains, IsTrue, List, count_by, min, slice_index, ℕ, ◌≡◌, ◌≤◌}
use Rattle.atomic_table.specs.Table.{State}
use Rattle.grid_core.specs.{Raster.IsBelow, Raster.value_at, declared.pixel.Pixel.Pixel}
use Rattle.pgm_codec.specs.Graymap.{Graymap}
use lib.ListN.{get_elem?}
use mathlib.Core.Option.{some}
use Rattle.live_board.specs.Closing.{AreAllPlanted, IsGrown, IsReadFrom}
use Rattle.live_board.specs.Rounds.{HasTouched, Touch, has_risen}
use Rattle.live_board.specs.Seats.{HasStarted, IsBeside, IsOf, ground_of}
use Rattle.live_board.specs.Words.{IsOn, mask_of, number, place_of}
use Rattle.live_board.specs.{declared.board.Board.Board, declared.draft.Draft.Draft, declared.fact.Fact.Fact}
use Rattle.live_board.specs.{declared.flood.Reach.Reach, declared.rule.Ground.Ground}
use Rattle.live_board.specs.{declared.rule.SeatView.SeatView, declared.strips.Strips.Strips}

-- the draft has the size of the board's mask, and is nowhere above it
abbrev pub IsDraftOf : Board → Draft → Type 0
IsDraftOf board draft = IsBelow draft.image (mask_of (ground_of board))

-- the strips are those of the board's rows
abbrev pub IsStripsOf : Board → Strips → Type 0
IsStripsOf board strips = strips.height ≡ (mask_of (ground_of board)).height

-- the pixel lies in the rows from `first` to before `end`
abbrev pub IsInRows : ℕ → ℕ → Pixel → Type 0
IsInRows first end p = (first ≤ p.y) × (p.y < end)

-- the seat knows that the pixel has at least the value, in the seat's generation
pub record Knows (v : SeatView) (p : Pixel) (value : ℕ) : Type 0 where
  pub known : Fact
  pub is_known : Contains v.facts known
  pub pixel : known.pixel ≡ p
  pub generation : known.generation ≡ v.generation
  pub enough : value ≤ known.value

-- what a fact's pixel passes on to a neighbour: its value, as far as the mask lets it at both
abbrev pub passed : Ground → Fact → Pixel → ℕ
passed base f q = min (min f.value (value_at (mask_of base) f.pixel)) (value_at (mask_of base) q)

-- the fact has spread: the seat knows of each neighbour what is passed on to it
abbrev pub HasSpread : Ground → SeatView → Fact → Type 0
HasSpread base v f = (q : Pixel) → IsBeside base f.pixel q → Knows v q (passed base f q)

-- the rows from `first` to before `end` were flooded: the generation was learnt, and each of their pixels was read.
-- What these steps read or left in the rows, of that generation, has spread. The count is that of the steps that found
-- less than they left
pub record HasFlooded (base : Ground) (first end count : ℕ) (old new : SeatView) : Type 0 where
  pub started : SeatView
  pub start : HasStarted old started
  pub touches : List Touch
  pub touched : HasTouched base touches started new
  pub read :
      (p : Pixel) → IsOn base p → IsInRows first end p
      → (loaded : Fact) × IsOf p loaded × Contains touches (loaded, number loaded)
  pub spread :
      (t : Touch) → Contains touches t → IsInRows first end t.0.pixel → t.0.generation ≡ new.generation
      → HasSpread base new t.0
  pub count_is : count ≡ count_by has_risen touches

-- the rows were flooded, and of what these steps raised, all that lies beyond the answer's rows has spread, too. The
-- answer's rows are the flooded ones, and more only where something rose
pub record HasFollowed (base : Ground) (first end : ℕ) (answer : Reach) (old new : SeatView) : Type 0 where
  pub flooded : HasFlooded base first end answer.rose old new
  pub low : answer.first ≤ first
  pub high : end ≤ answer.end
  pub within : answer.end ≤ (mask_of base).height
  pub quiet : answer.rose ≡ 0 → (answer.first ≡ first) × (answer.end ≡ end)
  pub followed :
      (t : Touch) → Contains flooded.touches t → IsTrue (has_risen t)
      → (IsInRows answer.first answer.end t.0.pixel → ⊥) → HasSpread base new t.0

-- the generation was learnt, and each of the pixels was read. Where a pixel had a value of that generation, it has
-- spread, and so has all that these steps raised, but for what lies in the answer's rows. The count is that of the
-- steps that found less than they left
pub record HasGrownFrom (base : Ground) (pixels : List Pixel) (answer : Reach) (old new : SeatView) : Type 0 where
  pub started : SeatView
  pub start : HasStarted old started
  pub touches : List Touch
  pub touched : HasTouched base touches started new
  pub read :
      (p : Pixel) → Contains pixels p
      → (loaded : Fact) × IsOf p loaded × Contains touches (loaded, number loaded)
      × (loaded.generation ≡ new.generation → (IsInRows answer.first answer.end p → ⊥) → HasSpread base new loaded)
  pub spread :
      (t : Touch) → Contains touches t → IsTrue (has_risen t)
      → (IsInRows answer.first answer.end t.0.pixel → ⊥) → HasSpread base new t.0
  pub within : answer.end ≤ (mask_of base).height
  pub count_is : answer.rose ≡ count_by has_risen touches

-- a hand that is now in the keeper's generation has flooded the pixel's row, and its word is no more than the hand read
-- or left there then: nobody has raised the pixel since
pub record IsFloodedAt (base : Ground) (s : State ℕ SeatView) (keeper : SeatView) (p : Pixel) : Type 0 where
  pub id : ℕ
  pub old : SeatView
  pub new : SeatView
  pub seat_is : get_elem? s.views id ≡ some new
  pub present : new.generation ≡ keeper.generation
  pub first : ℕ
  pub end : ℕ
  pub count : ℕ
  pub flooded : HasFlooded base first end count old new
  pub rows : IsInRows first end p
  pub last : Touch
  pub is_last : Contains flooded.touches last
  pub pixel : last.0.pixel ≡ p
  pub no_more : slice_index s.words (place_of base p) ≤ number last.0

-- an image of a board whose keeper has planted each pixel, where hands have flooded each pixel's row, and nobody has
-- raised it since, is the reconstruction
abbrev pub FloodedIsGrown : Type 0
FloodedIsGrown =
    (base : Ground) (keeper : SeatView) (image : Graymap) (read : IsReadFrom base keeper image.raster)
    → IsBelow keeper.marker (mask_of base) → AreAllPlanted base keeper
    → ((p : Pixel) → IsOn base p → IsFloodedAt base read.last keeper p) → IsGrown base keeper image

-- the seat is in the same generation as before, and knows all that it knew
abbrev pub KnowsAsMuch : SeatView → SeatView → Type 0
KnowsAsMuch old new =
    (new.generation ≡ old.generation) × ((f : Fact) → Contains old.facts f → Contains new.facts f)

-- what has spread has spread as long as the seat knows as much
abbrev pub SpreadLasts : Type 0
SpreadLasts =
    (base : Ground) (old new : SeatView) (f : Fact) → KnowsAsMuch old new → HasSpread base old f
    → HasSpread base new f

-- a hand that is now in the keeper's generation knows a fact of the pixel that has spread, where it is of that
-- generation, and the pixel's word is no more: nobody has raised the pixel since
pub record IsSpreadAt (base : Ground) (s : State ℕ SeatView) (keeper : SeatView) (p : Pixel) : Type 0 where
  pub id : ℕ
  pub hand : SeatView
  pub seat_is : get_elem? s.views id ≡ some hand
  pub present : hand.generation ≡ keeper.generation
  pub last : Fact
  pub is_known : Contains hand.facts last
  pub pixel : last.pixel ≡ p
  pub spread : last.generation ≡ hand.generation → HasSpread base hand last
  pub no_more : slice_index s.words (place_of base p) ≤ number last

-- an image of a board whose keeper has planted each pixel, where what hands know of each pixel has spread, and nobody
-- has raised it since, is the reconstruction
abbrev pub SpreadIsGrown : Type 0
SpreadIsGrown =
    (base : Ground) (keeper : SeatView) (image : Graymap) (read : IsReadFrom base keeper image.raster)
    → IsBelow keeper.marker (mask_of base) → AreAllPlanted base keeper
    → ((p : Pixel) → IsOn base p → IsSpreadAt base read.last keeper p) → IsGrown base keeper image
