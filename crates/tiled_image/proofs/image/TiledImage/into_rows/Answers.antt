-- What the tactics leave open of `into_rows`.
use Rattle.std.proofs.Common.{ap, ◌∙◌}
use Rattle.tiled_image.specs.TiledImage.{TiledRaster}
use Rattle.tiled_image.proofs.image.TiledImage.into_rows.Goals as goal

pub returns : goal.returns
returns c = c.write_all.ensures.rows ∙ ap (λ (r : TiledRaster). r.image) c.self.view_is
