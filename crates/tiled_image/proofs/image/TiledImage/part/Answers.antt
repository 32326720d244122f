-- What the tactics leave open of `part`.
use Rattle.std.proofs.Common.{None, false, slice_index_or, subst, sym, ◌∙◌}
use Rattle.std.proofs.lemmas.Bool.{both_ways}
use Rattle.grid_core.specs.{Rects.IsPart, Tiles.rect_of}
use Rattle.tiled_image.specs.{RaisedTiles.whole_of, TiledImage.TiledRaster}
use Rattle.tiled_image.proofs.{KeptImages.tile_before, LaidRims.settled_part, PartsAt.if_found}
use Rattle.tiled_image.proofs.image.TiledImage.part.Goals as goal

pub returns : goal.returns
returns c =
    let i = c.self.inside in
    let now = c.args.self.now in
    let tile = c.args.tile in
    let within = tile_before i.tiling (whole_of i.tiling i.rows i.parts i.newer i.rims) now tile c.self.view_is
    c.requires in
    if_found c.part.result (slice_index_or i.parts tile None) (IsPart (rect_of now.tiling tile) now.image)
    c.part.ensures (λ m there.
    subst (λ (r : TiledRaster). IsPart (rect_of r.tiling tile) r.image m) c.self.view_is
    (settled_part c.self.invariant.shown tile within (λ has.
    both_ways (slice_index_or i.raised tile false) (sym c.contains.ensures ∙ c.if-contains.false) has.1) m
    (c.self.invariant.kept.are_cut.cut tile m there)))
