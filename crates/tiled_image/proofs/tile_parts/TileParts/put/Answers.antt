-- What the tactics leave open of `put`.
use Rattle.std.proofs.Common.{Some}
use Rattle.tiled_image.proofs.PartsAt.{slot_stored}
use Rattle.tiled_image.proofs.tile_parts.TileParts.put.Goals as goal

pub returns : goal.returns
returns c = slot_stored c.self.inside.tiles.items c.args.self.now c.args.tile c.self.view_is (Some c.args.part)
