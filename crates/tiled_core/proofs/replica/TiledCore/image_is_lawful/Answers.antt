-- What the tactics leave open of `image_is_lawful`.
use Rattle.std.proofs.Common.{refl}
use Rattle.tiled_core.proofs.StoredCore.{is_image_of, kept_sound}
use Rattle.tiled_core.proofs.replica.TiledCore.image_is_lawful.Goals as goal

pub returns : goal.returns
returns c =
    let core = c.args.self.now in
    is_image_of core core.image (kept_sound c.self.inside core c.self.view_is c.self.invariant) refl
