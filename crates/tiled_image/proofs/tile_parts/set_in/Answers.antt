-- What the tactics leave open of `set_in`.
use Rattle.std.proofs.Common.{IfSome, subst}
use Rattle.grid_core.specs.Raster.{IsInside}
use Rattle.tile_generations.specs.CutMasks.{cut_mask}
use Rattle.tiled_image.proofs.PartsAt.{slot_set}
use Rattle.tiled_image.proofs.tile_parts.set_in.Goals as goal

pub set_own-requires : goal.set_own-requires
set_own-requires c =
    subst (λ slot. IfSome (cut_mask slot) (λ part. IsInside part.width part.height c.args.p)) c.in-Some.is c.requires

pub returns-in-Some : goal.returns-in-Some
returns-in-Some c =
    slot_set c.args.slot.now c.in-Some.part c.set_own.new.part c.args.p c.args.value c.set_own.result c.in-Some.is
    c.set_own.ensures
