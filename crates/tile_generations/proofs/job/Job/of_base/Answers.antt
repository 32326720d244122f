-- What the tactics leave open of `of_base`. Base and mask are sized as they are lent.
use Rattle.std.proofs.Common.{subst}
use Rattle.grid_core.specs.Raster.{IsSized}
use Rattle.tile_generations.proofs.job.Job.of_base.Goals as goal

pub invariant_of-result : goal.invariant_of-result
invariant_of-result c = record {
  is_job = record {
    sized = subst IsSized c.deref.ensures c.cells-limits.ensures.sized;
    filled = (subst IsSized c.grid.ensures c.cells-cells.ensures.sized).filled;
    below = c.requires.below;
  };
  within = c.requires.bounds;
}
