-- What the tactics leave open of `image`.
use Rattle.std.proofs.Common.{◌∙◌}
use Rattle.std.proofs.lemmas.Result.{IfOk-weaker}
use Rattle.tiled_core.proofs.StoredCore.{is_image_of, kept_image, kept_sound}
use Rattle.tiled_core.proofs.replica.TiledCore.image.Goals as goal

pub returns : goal.returns
returns c =
    let core = c.args.self.now in
    let sound = kept_sound c.self.inside core c.self.view_is c.self.invariant in
    let same = kept_image c.self.inside core c.self.view_is c.self.invariant in
    IfOk-weaker c.copy.result _ _ (λ image copied. is_image_of core image sound (copied ∙ same)) c.copy.ensures
