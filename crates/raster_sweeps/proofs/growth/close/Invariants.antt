use Rattle.raster_sweeps.specs.Growth.{IsGrown, rows_of}
use Rattle.grid_core.specs.Raster.{headroom}
use Rattle.raster_sweeps.proofs.growth.close.Given as goal

abbrev pub invariant-rounds : goal.invariant-rounds
invariant-rounds l =
    IsGrown l.conn l.rect (rows_of l.size l.mask) (rows_of l.size l.initial.image) (rows_of l.size l.image)

abbrev pub decreases-rounds : goal.decreases-rounds
decreases-rounds l = headroom l.image
