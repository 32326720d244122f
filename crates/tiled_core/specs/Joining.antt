-- Parts that are put in where a swept tile is joined. Only private functions have these words in their contracts.
use Rattle.grid_core.specs.{declared.bounds.Bounds.Bounds, Raster.Raster}
use Rattle.tile_generations.specs.{Jobs.IsSwept, Jobs.Swept, Rims.IsRimOf, Rims.Rim}
use Rattle.core_rules.specs.{Sweeps.tile_rect, Work.Core}
use Rattle.reset_core.specs.Parts.{AreBoundsAbove}
use Rattle.tiled_image.specs.{Raising.IsBelowInside, Raising.RaisesAs, Shown.value_in}

-- the part, with this rim, raises the tile as what the sweep gave does, the tile is nowhere above it but on the rim,
-- and the bounds have each pixel of the tile where it is above what the sweep gave
pub record IsRaising (core : Core) (swept : Swept) (part : Raster) (rim : Rim) (area : Bounds) : Type 0 where
  pub of_sweep : IsSwept swept
  pub raises : RaisesAs (tile_rect core swept.job.ticket.tile) core.image swept.pixels part
  pub inside : IsBelowInside (tile_rect core swept.job.ticket.tile) core.image
      (value_in (tile_rect core swept.job.ticket.tile) part)
  pub of_part : IsRimOf part rim
  pub above : AreBoundsAbove (tile_rect core swept.job.ticket.tile) (tile_rect core swept.job.ticket.tile).h core.image
      swept.pixels area
