-- What the tactics leave open of `take`.
use Rattle.std.proofs.Common.{set, sym, ◌∙◌, ap}
use Rattle.tile_generations.specs.CutMasks.{cut_mask}
use Rattle.tile_generations.proofs.CutMasks.{cut_at}
use Rattle.tiled_image.proofs.PartsAt.{slot_stored}
use Rattle.tiled_image.proofs.tile_parts.TileParts.take.Goals as goal

pub returns-clause-part : goal.returns-clause-part
returns-clause-part c =
    ap cut_mask c.take.ensures.value
    ∙ sym (cut_at c.self.inside.tiles.items c.args.self.now c.args.tile c.index_mut.result.now c.self.view_is c.requires
    c.index_mut.ensures.value)

pub returns-clause-rest : goal.returns-clause-rest
returns-clause-rest c =
    slot_stored c.self.inside.tiles.items c.args.self.now c.args.tile c.self.view_is c.take.new.self
    ∙ ap (λ slot. set c.args.self.now c.args.tile (cut_mask slot)) c.take.ensures.after
