-- A greyscale image as plain data, and what every one keeps.
use Rattle.std.specs.Prelude.{ℕ, ◌<◌, ◌≤◌, slice_index, EachIndex}
use Rattle.grid_core.specs.Raster.{Raster, IsSized, IsFilled, IsBelow, max_level}

-- an image of samples from 0 to the greatest, maxval
pub record Graymap : Type 0 where
  pub raster : Raster
  pub maxval : ℕ

-- sides that an image may have with a sample for each pixel, a maxval that a file may have, and no sample
-- above it
pub record IsGraymap (g : Graymap) : Type 0 where
  pub sized : IsSized g.raster
  pub some_maxval : 0 < g.maxval
  pub maxval_within : g.maxval ≤ max_level
  pub samples_within : EachIndex g.raster.cells (λ k. slice_index g.raster.cells k ≤ g.maxval)

-- a grid that is nowhere above the samples of an image keeps the image's maxval
abbrev pub BelowKeepsMaxval : Type 0
BelowKeepsMaxval =
    (image : Graymap) (grid : Raster) → IsGraymap image → IsFilled grid → IsBelow grid image.raster
    → IsGraymap (record { raster = grid; maxval = image.maxval })
