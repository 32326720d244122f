-- What the tactics leave open of `new`. To share pixels does not change them.
use Rattle.std.proofs.Common.{subst, sym}
use Rattle.grid_core.specs.Raster.{Raster}
use Rattle.tile_generations.specs.{Jobs.IsSwept, Rims.IsRimOf}
use Rattle.tile_generations.proofs.swept.Swept.new.Goals as goal

pub invariant_of-result : goal.invariant_of-result
invariant_of-result c = record {
  is_swept = subst (λ (r : Raster). IsSwept (record { job = c.args.job; pixels = r })) (sym c.in-Ok-new.ensures.ok)
      c.requires;
  has_rim = subst (λ (r : Raster). IsRimOf r c.in-Ok.rim) (sym c.in-Ok-new.ensures.ok) c.in-Ok.ensures;
}

pub returns-in-Ok-new-clause-swept : goal.returns-in-Ok-new-clause-swept
returns-in-Ok-new-clause-swept c =
    subst (λ (r : Raster). IsSwept (record { job = c.args.job; pixels = r })) (sym c.in-Ok-new.ensures.ok) c.requires
