-- What a board leaves when it is closed.
use Rattle.std.specs.Prelude.{◌%◌, ◌/◌, Bool, Contains, IsTrue, slice_index, ℕ, ◌↔◌, ◌≡◌, ◌≤◌}
use Rattle.atomic_table.specs.Table.{State}
use Rattle.grid_core.specs.{Raster.IsBelow, Raster.Raster, Raster.value_at, Reconstruction.IsClosed}
use Rattle.grid_core.specs.{Reconstruction.IsReconstruction, declared.pixel.Pixel.Pixel}
use Rattle.pgm_codec.specs.Graymap.{Graymap}
use lib.ListN.{get_elem?}
use mathlib.Core.Option.{some}
use Rattle.live_board.specs.{Rule.IsBoard, Seats.planted_fact, declared.fact.Fact.Fact, declared.rule.Ground.Ground}
use Rattle.live_board.specs.declared.rule.SeatView.{SeatView}
use Rattle.live_board.specs.Words.{IsOn, Supports, domain, mask_of, place_of}

-- each pixel was planted since the keeper's marker or generation changed last
abbrev pub AreAllPlanted : Ground → SeatView → Type 0
AreAllPlanted base keeper = (p : Pixel) → IsOn base p → Contains keeper.facts (planted_fact keeper p)

-- the image is the reconstruction of the mask from the keeper's marker
abbrev pub IsGrown : Ground → SeatView → Graymap → Type 0
IsGrown base keeper image =
    IsReconstruction (domain base) (value_at (mask_of base)) (value_at keeper.marker) (value_at image.raster)

-- the value is that of the word, or 0 where the word is of another generation
pub record IsValueIn (generation word value : ℕ) : Type 0 where
  pub same : word / 65536 ≡ generation → value ≡ word % 65536
  pub other : (word / 65536 ≡ generation → ⊥) → value ≡ 0

-- each pixel has the value of its word in the last state of the board, or 0 where that word is of an older generation.
-- The rule held in that state, and the keeper's seat had this view
pub record IsReadFrom (base : Ground) (keeper : SeatView) (image : Raster) : Type 0 where
  pub last : State ℕ SeatView
  pub rule : IsBoard base last
  pub keeper_is : get_elem? last.views 0 ≡ some keeper
  pub values :
      (p : Pixel) → IsOn base p
      → IsValueIn keeper.generation (slice_index last.words (place_of base p)) (value_at image p)

-- no pixel is less than what a step of the keeper found there in its generation
abbrev pub IsAboveFound : Ground → SeatView → Raster → Type 0
IsAboveFound base keeper image =
    (p : Pixel) (found : ℕ) → IsOn base p → Contains keeper.steps (place_of base p, found)
    → found / 65536 ≡ keeper.generation → found % 65536 ≤ value_at image p

-- the image of a board that was closed: it has the size and the maxval of the mask, and the values of the words; each
-- pixel reaches its value from the keeper's marker, none is below what the keeper knows of it or found there in its
-- generation, and where each was planted none is below the marker. It is said whether a pixel can still raise another;
-- where none can and none is below the marker, the image is the reconstruction
pub record IsImageOf (base : Ground) (keeper : SeatView) (image : Graymap) (closed : Bool) : Type 0 where
  pub width : image.raster.width ≡ (mask_of base).width
  pub height : image.raster.height ≡ (mask_of base).height
  pub maxval : image.maxval ≡ base.mask.maxval
  pub read : IsReadFrom base keeper image.raster
  pub reached : (p : Pixel) → IsOn base p → Supports base keeper.marker p (value_at image.raster p)
  pub known : (f : Fact) → Contains keeper.facts f → f.generation ≡ keeper.generation
      → f.value ≤ value_at image.raster f.pixel
  pub found : IsAboveFound base keeper image.raster
  pub above : AreAllPlanted base keeper → IsBelow keeper.marker image.raster
  pub closed_is : IsTrue closed ↔ IsClosed (domain base) (value_at (mask_of base)) (value_at image.raster)
  pub grown : IsTrue closed → IsBelow keeper.marker image.raster → IsGrown base keeper image
