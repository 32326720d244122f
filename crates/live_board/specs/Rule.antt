-- The rule of a board. It holds between any two steps of any threads.
use Rattle.std.specs.Prelude.{◌*◌, ◌+◌, ◌<◌, Contains, List, length, slice_index, ℕ, ◌≡◌, ◌≤◌}
use Rattle.atomic_table.specs.Table.{State}
use Rattle.grid_core.specs.{Raster.Raster, declared.pixel.Pixel.Pixel}
use lib.ListN.{get_elem?}
use mathlib.Core.Option.{some}
use Rattle.live_board.specs.Words.{IsOn, Supports, max_generation, number, place_of, size_of}
use Rattle.live_board.specs.{declared.fact.Fact.Fact, declared.rule.Ground.Ground, declared.rule.SeatView.SeatView}

-- the seat 0, which is the keeper's, has this generation and this marker
abbrev pub IsKeptAt : List SeatView → ℕ → Raster → Type 0
IsKeptAt views generation marker =
    (keeper : SeatView) × (get_elem? views 0 ≡ some keeper) × (keeper.generation ≡ generation)
    × (keeper.marker ≡ marker)

-- a fact holds: the word of its pixel is no less, and where the fact is of the present generation, the pixel reaches
-- its value from the marker
pub record IsHeld (base : Ground) (words : List ℕ) (generation : ℕ) (marker : Raster) (f : Fact) : Type 0 where
  pub on : IsOn base f.pixel
  pub small : f.value < 65536
  pub kept : number f ≤ slice_index words (place_of base f.pixel)
  pub reached : f.generation ≡ generation → Supports base marker f.pixel f.value

-- the word of a pixel is of no later generation than the present one, and where it is of that one, the pixel reaches
-- its value from the marker
pub record IsBacked (base : Ground) (words : List ℕ) (generation : ℕ) (marker : Raster) (p : Pixel) : Type 0 where
  pub not_later : slice_index words (place_of base p) < (generation + 1) * 65536
  pub reached :
      (value : ℕ) → value < 65536 → slice_index words (place_of base p) ≡ generation * 65536 + value
      → Supports base marker p value

-- no word of a pixel is less than what one of the steps found there
abbrev pub AreFound : Ground → List ℕ → List (ℕ × ℕ) → Type 0
AreFound base words steps =
    (p : Pixel) (found : ℕ) → IsOn base p → Contains steps (place_of base p, found)
    → found ≤ slice_index words (place_of base p)

-- a seat is of no later generation than the present one, its facts hold, and no word is less than it found there
pub record Sits (base : Ground) (words : List ℕ) (generation : ℕ) (marker : Raster) (v : SeatView) : Type 0 where
  pub not_later : v.generation ≤ generation
  pub facts : (f : Fact) → Contains v.facts f → IsHeld base words generation marker f
  pub found : AreFound base words v.steps

-- word 0 has the keeper's generation, each pixel's word is backed by the keeper's marker, and what seats know holds
pub record IsBoard (base : Ground) (s : State ℕ SeatView) : Type 0 where
  pub generation : ℕ
  pub marker : Raster
  pub keeper : IsKeptAt s.views generation marker
  pub wide : length s.words ≡ size_of base + 1
  pub head : slice_index s.words 0 ≡ generation * 65536
  pub within : generation ≤ max_generation
  pub pixels : (p : Pixel) → IsOn base p → IsBacked base s.words generation marker p
  pub seats : (id : ℕ) (v : SeatView) → get_elem? s.views id ≡ some v → Sits base s.words generation marker v
