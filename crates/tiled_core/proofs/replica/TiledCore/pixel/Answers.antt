-- What the tactics leave open of `pixel`.
use Rattle.std.proofs.Common.{ap, arith, ◌∙◌}
use Rattle.grid_core.specs.Raster.{value_at}
use Rattle.core_rules.specs.Work.{Core}
use Rattle.tiled_core.proofs.StoredCore.{kept_sound}
use Rattle.tiled_core.proofs.replica.TiledCore.pixel.Goals as goal

pub get-requires : goal.get-requires
get-requires c =
    let sound = kept_sound c.self.inside c.args.self.now c.self.view_is c.self.invariant in
    let width = ap (λ (k : Core). k.image.width) c.self.view_is ∙ sound.shape.image.width in
    let height = ap (λ (k : Core). k.image.height) c.self.view_is ∙ sound.shape.image.height in
    (omega (arith, c.requires.0, width), omega (arith, c.requires.1, height))

pub returns : goal.returns
returns c = c.get.ensures ∙ ap (λ (k : Core). value_at k.image c.args.p) c.self.view_is
