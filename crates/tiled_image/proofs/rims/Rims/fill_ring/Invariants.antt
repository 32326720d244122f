-- What the loop of `fill_ring` keeps.
use Rattle.grid_core.specs.Raster.{Raster}
use Rattle.tiled_image.specs.Rims.{AreRimsOf}
use Rattle.tiled_image.proofs.RingTiles.{AreTilesShown}
use Rattle.tiled_image.proofs.rims.Rims.fill_ring.Given as goal

-- the pixels of the tiles so far are shown, of each image of which these are the rims
abbrev pub invariant-loop-other : goal.invariant-loop-other
invariant-loop-other l =
    (image : Raster) → AreRimsOf l.tiling image l.self
    → AreTilesShown l.tiling image l.around l.tiles l.other-index l.cells
