-- What the tactics leave open of `share`.
use Rattle.std.proofs.Common.{Some, sym, ◌∙◌, ap}
use Rattle.tile_generations.specs.CutMasks.{cut_mask}
use Rattle.tile_generations.proofs.CutMasks.{cut_at}
use Rattle.tiled_image.proofs.PartsAt.{none_when}
use Rattle.tiled_image.proofs.tile_parts.TileParts.share.Goals as goal

pub returns-in_default : goal.returns-in_default
returns-in_default c =
    sym (cut_at c.self.inside.tiles.items c.args.self.now c.args.tile c.index.result.now c.self.view_is c.requires
    c.index.ensures
    ∙ ap cut_mask (none_when c.index.result.now c.in_default.not-Some))

pub returns : goal.returns
returns c =
    ap Some c.in_ok-try_clone.ensures
    ∙ sym (cut_at c.self.inside.tiles.items c.args.self.now c.args.tile c.index.result.now c.self.view_is c.requires
    c.index.ensures
    ∙ ap cut_mask c.in-Some.is)
