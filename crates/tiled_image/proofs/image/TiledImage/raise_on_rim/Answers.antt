-- What the tactics leave open of `raise_on_rim`.
use Rattle.std.proofs.Common.{◌≡◌, ◌<◌, ap, length, subst, sym, true, ◌∙◌}
use Rattle.std.proofs.lemmas.List.{length-set}
use Rattle.grid_core.specs.{declared.rect.Rect.Rect, Raster.with_value}
use Rattle.grid_core.specs.{Rects.IsInRect, Tiles.tile_of}
use Rattle.grid_core.proofs.Cells.{set_keeps_others}
use Rattle.tiled_image.specs.{RaisedTiles.whole_of, Rims.strip_at}
use Rattle.tiled_image.specs.TiledImage.{TiledRaster, tiled_raster}
use Rattle.tiled_image.proofs.KeptImages.{inside_image, rect_before, tile_before}
use Rattle.tiled_image.proofs.{LaidRims.rim_set, Places.pixel_in_tile}
use Rattle.tiled_image.proofs.{AllKept.seen, AllKept.with_all, SharedCopies.still_copies, TileRims.set_rims}
use Rattle.tiled_image.proofs.image.TiledImage.raise_on_rim.Goals as goal

pub insert-requires : goal.insert-requires
insert-requires c =
    let i = c.self.inside in
    subst (λ n. c.args.tile < n) (sym c.self.invariant.count)
    (tile_before i.tiling (whole_of i.tiling i.rows i.parts i.newer i.rims) c.args.self.now c.args.tile c.self.view_is
    c.requires.tile)

pub raise_at-requires-clause-count : goal.raise_at-requires-clause-count
raise_at-requires-clause-count c = c.self.invariant.shown.rims_are.count

pub raise_at-requires-clause-tile : goal.raise_at-requires-clause-tile
raise_at-requires-clause-tile c =
    let i = c.self.inside in
    tile_before i.tiling (whole_of i.tiling i.rows i.parts i.newer i.rims) c.args.self.now c.args.tile c.self.view_is
    c.requires.tile

pub raise_at-requires-clause-rect : goal.raise_at-requires-clause-rect
raise_at-requires-clause-rect c =
    let i = c.self.inside in
    rect_before i.tiling (whole_of i.tiling i.rows i.parts i.newer i.rims) c.args.self.now c.args.tile c.args.rect
    c.self.view_is c.requires.rect

pub invariant_of-self : goal.invariant_of-self
invariant_of-self c = rw c.if-not-raise_at.ensures.changed c.self.invariant

pub invariant_of-self-2 : goal.invariant_of-self-2
invariant_of-self-2 c =
    let i = c.self.inside in
    let tile = c.args.tile in
    let p = c.args.p in
    let v = c.args.value in
    let whole = whole_of i.tiling i.rows i.parts i.newer i.rims in
    let shown = c.self.invariant.shown in
    let within = tile_before i.tiling whole c.args.self.now tile c.self.view_is c.requires.tile in
    let rect_is = rect_before i.tiling whole c.args.self.now tile c.args.rect c.self.view_is c.requires.rect in
    let (inside, own) = pixel_in_tile i.tiling tile shown.of_tiling.tiled within p
    (subst (λ (r : Rect). IsInRect r p) rect_is c.requires.inside) in
    let rims =
    set_rims i.tiling shown.of_tiling.tiled tile v p whole i.rims c.raise_at.new.self within shown.of_tiling inside own
    c.if-not-raise_at.ensures.changed shown.rims_are in
    with_all c.insert.new.self c.self.invariant.kept
    (rim_set i.raised shown tile within c.self.invariant.count p v inside own rims c.args.edge
    (subst (λ (r : Rect). IsInRect (strip_at c.args.edge r) p) rect_is c.requires.at) c.insert.new.self
    c.insert.ensures)
    (ap length c.insert.ensures ∙ length-set i.raised tile true ∙ c.self.invariant.count)
    (still_copies c.self.invariant.copies_are c.mark.new.self (λ t. t ≡ tile) c.mark.ensures (with_value whole p v)
    (λ q in_tiling other.
    set_keeps_others whole p q v (inside_image i.tiling whole shown.of_tiling p inside)
    (inside_image i.tiling whole shown.of_tiling q in_tiling) (λ same. other (ap (tile_of i.tiling) same ∙ own))))

pub returns-clause-changed : goal.returns-clause-changed
returns-clause-changed c =
    let i = c.self.inside in
    let tile = c.args.tile in
    let p = c.args.p in
    let v = c.args.value in
    let whole = whole_of i.tiling i.rows i.parts i.newer i.rims in
    let shown = c.self.invariant.shown in
    let within = tile_before i.tiling whole c.args.self.now tile c.self.view_is c.requires.tile in
    let rect_is = rect_before i.tiling whole c.args.self.now tile c.args.rect c.self.view_is c.requires.rect in
    let (inside, own) = pixel_in_tile i.tiling tile shown.of_tiling.tiled within p
    (subst (λ (r : Rect). IsInRect r p) rect_is c.requires.inside) in
    let rims =
    set_rims i.tiling shown.of_tiling.tiled tile v p whole i.rims c.raise_at.new.self within shown.of_tiling inside own
    c.if-not-raise_at.ensures.changed shown.rims_are in
    seen c.insert.new.self c.self.invariant.kept
    (rim_set i.raised shown tile within c.self.invariant.count p v inside own rims c.args.edge
    (subst (λ (r : Rect). IsInRect (strip_at c.args.edge r) p) rect_is c.requires.at) c.insert.new.self
    c.insert.ensures)
    ∙ ap (λ (r : TiledRaster). tiled_raster r.tiling (with_value r.image p v)) c.self.view_is
