use Rattle.raster_sweeps.proofs.OpenBounds.{same_part_keeps_bounds}
use Rattle.raster_sweeps.proofs.laws.same_part_keeps_bounds.Goals as goal

pub returns : goal.returns
returns c = same_part_keeps_bounds
