-- Samples that are put behind a text. Only private functions have these words in their contracts.
use Rattle.std.specs.Prelude.{◌≡◌, ℕ, List, ◌++◌}
use Rattle.std.specs.List.{flat_map}
use Rattle.grid_core.specs.{declared.rect.Rect.Rect, Raster.Raster, Rects.IsPart}
use Rattle.pgm_codec.specs.{Graymap.Graymap, Writing.sample_bytes}
use Rattle.page_board.specs.Changes.{AreSamplesIn}

-- the second text is the first and the samples of the rectangle behind it, row by row
pub record PutsPart (g : Graymap) (rect : Rect) (before after : List ℕ) : Type 0 where
  pub piece : Raster
  pub is_part : IsPart rect g.raster piece
  pub behind : after ≡ before ++ flat_map (sample_bytes g.maxval) piece.cells

-- the second text is the first and the samples of the rectangles behind it
pub record PutsSamples (g : Graymap) (rects : List Rect) (before after : List ℕ) : Type 0 where
  pub bytes : List ℕ
  pub are_samples : AreSamplesIn g rects bytes
  pub behind : after ≡ before ++ bytes
