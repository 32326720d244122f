use Rattle.std.proofs.Common.{subst}
use Rattle.grid_core.specs.{Path.domain_of, Raster.Raster, Raster.value_at, Reconstruction.IsReconstruction}
use Rattle.raster_sweeps.proofs.growth.grow.Goals as goal

pub returns : goal.returns
returns c =
    let mask = c.args.mask.now in
    record {
      filled = c.in_ok-grow_in_place.ensures.grown.filled;
      width = c.in_ok-grow_in_place.ensures.grown.below.width;
      height = c.in_ok-grow_in_place.ensures.grown.below.height;
      below = c.in_ok-grow_in_place.ensures.grown.below;
      reconstruction =
          subst (λ (r : Raster). IsReconstruction (domain_of mask c.args.conn) (value_at mask) (value_at r)
          (value_at c.grow_in_place.new.image)) c.in_ok-image.ensures
          c.in_ok-grow_in_place.ensures.grown.reconstruction;
    }
