-- What the tactics leave open of `tiling`.
use Rattle.std.proofs.Common.{ap, subst}
use Rattle.tiled_image.specs.TiledImage.{TiledRaster, IsOfTiling}
use Rattle.tiled_image.proofs.image.TiledImage.tiling.Goals as goal

pub returns-clause-value : goal.returns-clause-value
returns-clause-value c = ap (λ (r : TiledRaster). r.tiling) c.self.view_is

pub returns-clause-of_tiling : goal.returns-clause-of_tiling
returns-clause-of_tiling c =
    subst (λ (r : TiledRaster). IsOfTiling r.tiling r.image) c.self.view_is c.self.invariant.shown.of_tiling
