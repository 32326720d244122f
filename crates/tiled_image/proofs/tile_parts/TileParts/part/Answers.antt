-- What the tactics leave open of `part`.
use Rattle.std.proofs.Common.{Some, sym, ◌∙◌, ap}
use Rattle.tile_generations.specs.CutMasks.{cut_mask}
use Rattle.tile_generations.proofs.CutMasks.{cut_at}
use Rattle.tiled_image.proofs.tile_parts.TileParts.part.Goals as goal

pub returns-in-Some : goal.returns-in-Some
returns-in-Some c =
    cut_at c.self.inside.tiles.items c.args.self.now c.args.tile c.index.result.now c.self.view_is c.requires
    c.index.ensures
    ∙ ap cut_mask c.in-Some.is ∙ ap Some (sym c.deref.ensures)

pub returns-in-None : goal.returns-in-None
returns-in-None c =
    cut_at c.self.inside.tiles.items c.args.self.now c.args.tile c.index.result.now c.self.view_is c.requires
    c.index.ensures
    ∙ ap cut_mask c.in-None.is
