-- What the tactics leave open of `copy_into`.
use Rattle.std.proofs.Common.{ap, sym, subst, ◌∙◌}
use Rattle.grid_core.specs.Raster.{Raster}
use Rattle.tile_work.specs.TileSet.{Has}
use Rattle.tiled_image.specs.RaisedTiles.{IsShownBut, shown_of}
use Rattle.tiled_image.specs.TiledImage.{TiledRaster, IsKept, image_of}
use Rattle.tiled_image.proofs.image.TiledImage.copy_into.Goals as goal

pub assign-requires-clause-width : goal.assign-requires-clause-width
assign-requires-clause-width c = c.requires.width ∙ sym (ap (λ (r : TiledRaster). r.image.width) c.self.view_is)

pub assign-requires-clause-height : goal.assign-requires-clause-height
assign-requires-clause-height c = c.requires.height ∙ sym (ap (λ (r : TiledRaster). r.image.height) c.self.view_is)

pub write_parts-requires : goal.write_parts-requires
write_parts-requires c =
    let i = c.self.inside in
    subst (λ (rows : Raster). IsKept i.tiling rows i.parts i.newer) (sym c.assign.ensures) c.self.invariant.kept

pub write_raised-requires-clause-shown : goal.write_raised-requires-clause-shown
write_raised-requires-clause-shown c =
    let i = c.self.inside in
    let copy_is =
    c.write_parts.ensures ∙ ap (λ (rows : Raster). image_of i.tiling rows i.parts i.newer) c.assign.ensures in
    subst (λ (r : Raster). IsShownBut (Has i.raised) (shown_of i.tiling r i.rims) i.tiling r i.rims) (sym copy_is)
    c.self.invariant.shown

pub returns : goal.returns
returns c =
    let i = c.self.inside in
    let copy_is =
    c.write_parts.ensures ∙ ap (λ (rows : Raster). image_of i.tiling rows i.parts i.newer) c.assign.ensures in
    c.write_raised.ensures ∙ ap (λ (r : Raster). shown_of i.tiling r i.rims) copy_is
    ∙ ap (λ (r : TiledRaster). r.image) c.self.view_is
