-- What the tactics leave open of `set_inner`.
use Rattle.std.proofs.Common.{◌≡◌, ap, subst, ◌∙◌}
use Rattle.grid_core.specs.{declared.rect.Rect.Rect, Raster.with_value, Rects.IsInRect, Tiles.tile_of}
use Rattle.grid_core.proofs.Cells.{set_keeps_others}
use Rattle.tiled_image.specs.RaisedTiles.{IsInner, whole_of}
use Rattle.tiled_image.specs.TiledImage.{TiledRaster, tiled_raster}
use Rattle.tiled_image.proofs.KeptImages.{inside_image, rect_before, tile_before}
use Rattle.tiled_image.proofs.{LaidRims.inner_rims, LaidRims.inner_set, Places.pixel_in_tile}
use Rattle.tiled_image.proofs.{AllKept.seen, AllKept.with_all, SharedCopies.still_copies}
use Rattle.tiled_image.proofs.image.TiledImage.set_inner.Goals as goal

pub set_value-requires-clause-tile : goal.set_value-requires-clause-tile
set_value-requires-clause-tile c =
    let i = c.self.inside in
    tile_before i.tiling (whole_of i.tiling i.rows i.parts i.newer i.rims) c.args.self.now c.args.tile c.self.view_is
    c.requires.tile

pub set_value-requires-clause-rect : goal.set_value-requires-clause-rect
set_value-requires-clause-rect c =
    let i = c.self.inside in
    rect_before i.tiling (whole_of i.tiling i.rows i.parts i.newer i.rims) c.args.self.now c.args.tile c.args.rect
    c.self.view_is c.requires.rect

pub invariant_of-self : goal.invariant_of-self
invariant_of-self c =
    let i = c.self.inside in
    let tile = c.args.tile in
    let p = c.args.p in
    let v = c.args.value in
    let whole = whole_of i.tiling i.rows i.parts i.newer i.rims in
    let shown = c.self.invariant.shown in
    let within = tile_before i.tiling whole c.args.self.now tile c.self.view_is c.requires.tile in
    let rect_is = rect_before i.tiling whole c.args.self.now tile c.args.rect c.self.view_is c.requires.rect in
    let (inside, own) = pixel_in_tile i.tiling tile shown.of_tiling.tiled within p
    (subst (λ (r : Rect). IsInRect r p) rect_is c.requires.inside) in
    let rims = inner_rims i.tiling whole i.rims tile p v shown.of_tiling shown.rims_are inside own
    (subst (λ (r : Rect). IsInner r p) rect_is c.requires.inner) in
    with_all i.raised c.set_value.ensures
    (inner_set i.raised shown tile within c.self.invariant.count p v inside own rims) c.self.invariant.count
    (still_copies c.self.invariant.copies_are c.mark.new.self (λ t. t ≡ tile) c.mark.ensures (with_value whole p v)
    (λ q in_tiling other.
    set_keeps_others whole p q v (inside_image i.tiling whole shown.of_tiling p inside)
    (inside_image i.tiling whole shown.of_tiling q in_tiling) (λ same. other (ap (tile_of i.tiling) same ∙ own))))

pub returns : goal.returns
returns c =
    let i = c.self.inside in
    let tile = c.args.tile in
    let p = c.args.p in
    let v = c.args.value in
    let whole = whole_of i.tiling i.rows i.parts i.newer i.rims in
    let shown = c.self.invariant.shown in
    let within = tile_before i.tiling whole c.args.self.now tile c.self.view_is c.requires.tile in
    let rect_is = rect_before i.tiling whole c.args.self.now tile c.args.rect c.self.view_is c.requires.rect in
    let (inside, own) = pixel_in_tile i.tiling tile shown.of_tiling.tiled within p
    (subst (λ (r : Rect). IsInRect r p) rect_is c.requires.inside) in
    let rims = inner_rims i.tiling whole i.rims tile p v shown.of_tiling shown.rims_are inside own
    (subst (λ (r : Rect). IsInner r p) rect_is c.requires.inner) in
    seen i.raised c.set_value.ensures
    (inner_set i.raised shown tile within c.self.invariant.count p v inside own rims)
    ∙ ap (λ (r : TiledRaster). tiled_raster r.tiling (with_value r.image p v)) c.self.view_is
