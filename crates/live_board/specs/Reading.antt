-- How an image is read off the words of a board. Only private functions have these words in their contracts.
use Rattle.std.specs.Prelude.{◌<◌, Bool, IsTrue, List, slice_index, ℕ, ◌↔◌, ◌≡◌}
use Rattle.grid_core.specs.Raster.{IsBelow, IsFilled, Raster, index_of, value_at}
use Rattle.grid_core.specs.{Reconstruction.IsClosed, declared.pixel.Pixel.Pixel}
use Rattle.pgm_codec.specs.Graymap.{Graymap}
use Rattle.live_board.specs.{Closing.IsValueIn, Words.IsOn, Words.domain, Words.mask_of, Words.place_of}
use Rattle.live_board.specs.declared.rule.Ground.{Ground}

-- the image has the mask's size, and at the first pixels, so many of them, the values of their words
pub record IsReadOff (base : Ground) (generation : ℕ) (words : List ℕ) (count : ℕ) (image : Raster) : Type 0 where
  pub width : image.width ≡ (mask_of base).width
  pub height : image.height ≡ (mask_of base).height
  pub filled : IsFilled image
  pub values :
      (p : Pixel) → IsOn base p → index_of (mask_of base).width p < count
      → IsValueIn generation (slice_index words (place_of base p)) (value_at image p)

-- the image has a value for each pixel of the mask, nowhere above it
abbrev pub IsWithin : Raster → Raster → Type 0
IsWithin mask image = IsFilled image × IsBelow image mask

-- the image has the mask's maxval, and it is said whether no pixel can raise another
pub record IsEnding (base : Ground) (image : Raster) (made : Graymap) (closed : Bool) : Type 0 where
  pub raster : made.raster ≡ image
  pub maxval : made.maxval ≡ base.mask.maxval
  pub closed_is : IsTrue closed ↔ IsClosed (domain base) (value_at (mask_of base)) (value_at image)
