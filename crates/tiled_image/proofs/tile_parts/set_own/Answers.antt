-- What the tactics leave open of `set_own`.
use Rattle.std.proofs.Common.{ap, sym, subst, ◌∙◌}
use Rattle.grid_core.specs.Raster.{Raster, IsInside, with_value}
use Rattle.tiled_image.proofs.tile_parts.set_own.Goals as goal

pub set-requires : goal.set-requires
set-requires c =
    subst (λ (r : Raster). IsInside r.width r.height c.args.p) (sym c.in-Some.ensures.value) c.requires

pub returns-in-Some : goal.returns-in-Some
returns-in-Some c =
    c.set.ensures ∙ ap (λ (r : Raster). with_value r c.args.p c.args.value) c.in-Some.ensures.value
