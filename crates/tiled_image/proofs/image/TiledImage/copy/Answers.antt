-- What the tactics leave open of `copy`.
use Rattle.std.proofs.Common.{ap, sym, subst, ◌∙◌}
use Rattle.grid_core.specs.Raster.{Raster}
use Rattle.tile_work.specs.TileSet.{Has}
use Rattle.tiled_image.specs.RaisedTiles.{IsShownBut, shown_of}
use Rattle.tiled_image.specs.TiledImage.{TiledRaster, IsKept, image_of}
use Rattle.tiled_image.proofs.image.TiledImage.copy.Goals as goal

pub write_parts-requires : goal.write_parts-requires
write_parts-requires c =
    let i = c.self.inside in
    subst (λ (rows : Raster). IsKept i.tiling rows i.parts i.newer) (sym c.in_ok-image.ensures) c.self.invariant.kept

pub write_raised-requires-clause-shown : goal.write_raised-requires-clause-shown
write_raised-requires-clause-shown c =
    let i = c.self.inside in
    let copy_is =
    c.write_parts.ensures ∙ ap (λ (rows : Raster). image_of i.tiling rows i.parts i.newer) c.in_ok-image.ensures in
    subst (λ (r : Raster). IsShownBut (Has i.raised) (shown_of i.tiling r i.rims) i.tiling r i.rims) (sym copy_is)
    c.self.invariant.shown

pub returns : goal.returns
returns c =
    let i = c.self.inside in
    let copy_is =
    c.write_parts.ensures ∙ ap (λ (rows : Raster). image_of i.tiling rows i.parts i.newer) c.in_ok-image.ensures in
    c.write_raised.ensures ∙ ap (λ (r : Raster). shown_of i.tiling r i.rims) copy_is
    ∙ ap (λ (r : TiledRaster). r.image) c.self.view_is
