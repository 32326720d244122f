-- What is true of each kept marker. Private functions cite it; the clauses of `marker`, `mask` and `tiling` hand it
-- out.
use Rattle.std.specs.Prelude.{◌≡◌}
use Rattle.grid_core.specs.Raster.{IsSized, IsBelow}
use Rattle.marker_tiles.specs.Kept.{Kept}

-- mask and marker are images, the marker is at most the mask, and the tiles are those of the mask
pub record IsInOrder (kept : Kept) : Type 0 where
  pub mask_sized : IsSized kept.mask
  pub marker_sized : IsSized kept.marker
  pub below : IsBelow kept.marker kept.mask
  pub width : kept.tiling.width ≡ kept.mask.width
  pub height : kept.tiling.height ≡ kept.mask.height
