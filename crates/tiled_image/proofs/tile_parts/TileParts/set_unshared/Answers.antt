-- What the tactics leave open of `set_unshared`.
use Rattle.std.proofs.Common.{Option, IfSome, subst}
use Rattle.grid_core.specs.Raster.{Raster, IsInside}
use Rattle.tile_generations.proofs.CutMasks.{cut_at}
use Rattle.tiled_image.proofs.PartsAt.{part_stored}
use Rattle.tiled_image.proofs.tile_parts.TileParts.set_unshared.Goals as goal

pub set_in-requires : goal.set_in-requires
set_in-requires c =
    subst (λ (slot : Option Raster). IfSome slot (λ part. IsInside part.width part.height c.args.p))
    (cut_at c.self.inside.tiles.items c.args.self.now c.args.tile c.index_mut.result.now c.self.view_is c.requires.tile
    c.index_mut.ensures.value)
    c.requires.inside

pub returns : goal.returns
returns c =
    part_stored c.self.inside.tiles.items c.args.self.now c.args.tile c.self.view_is c.index_mut.result.now
    c.set_in.new.slot
    (cut_at c.self.inside.tiles.items c.args.self.now c.args.tile c.index_mut.result.now c.self.view_is c.requires.tile
    c.index_mut.ensures.value)
    c.args.p c.args.value c.set_in.result c.set_in.ensures
