-- What the tactics leave open of `source`.
use Rattle.std.proofs.Common.{false, slice_index_or, sym, subst, ◌∙◌}
use Rattle.std.proofs.lemmas.Bool.{both_ways}
use Rattle.grid_core.specs.{declared.rect.Rect.Rect, Tiles.rect_of}
use Rattle.tile_generations.specs.Jobs.{all_of}
use Rattle.tiled_image.specs.{RaisedTiles.whole_of, Shown.Shows, TiledImage.TiledRaster}
use Rattle.tiled_image.proofs.KeptImages.{part_shows, rows_show, tile_before}
use Rattle.tiled_image.proofs.{LaidRims.settled_shows, WrittenParts.all_by_sides}
use Rattle.tiled_image.proofs.image.TiledImage.source.Goals as goal

pub rect-requires : goal.rect-requires
rect-requires c =
    let i = c.self.inside in
    tile_before i.tiling (whole_of i.tiling i.rows i.parts i.newer i.rims) c.args.self.now c.args.tile c.self.view_is
    c.requires

pub returns-in-Some : goal.returns-in-Some
returns-in-Some c =
    let i = c.self.inside in
    let tile = c.args.tile in
    let whole = whole_of i.tiling i.rows i.parts i.newer i.rims in
    let m = c.in-Some.part.now in
    let within = tile_before i.tiling whole c.args.self.now tile c.self.view_is c.requires in
    subst (λ (r : TiledRaster). Shows (rect_of r.tiling tile) r.image m c.rect.result) c.self.view_is
    (subst (λ (shown : Rect). Shows (rect_of i.tiling tile) whole m shown) (sym c.rect.ensures.value)
    (settled_shows c.self.invariant.shown tile within (λ has.
    both_ways (slice_index_or i.raised tile false) (sym c.contains.ensures ∙ c.if-contains.false) has.1) m
    (rect_of i.tiling tile) (part_shows c.self.invariant.kept tile within m c.in-Some.ensures)))

pub returns-in-None : goal.returns-in-None
returns-in-None c =
    let i = c.self.inside in
    let tile = c.args.tile in
    let whole = whole_of i.tiling i.rows i.parts i.newer i.rims in
    let within = tile_before i.tiling whole c.args.self.now tile c.self.view_is c.requires in
    let all = all_by_sides i.rows c.width.result c.height.result c.width.ensures.value c.height.ensures.value in
    subst (λ (r : TiledRaster). Shows (rect_of r.tiling tile) r.image i.rows (record {
      x = 0;
      y = 0;
      w = c.width.result;
      h = c.height.result;
    })) c.self.view_is
    (subst (λ (shown : Rect). Shows (rect_of i.tiling tile) whole i.rows shown) all
    (settled_shows c.self.invariant.shown tile within (λ has.
    both_ways (slice_index_or i.raised tile false) (sym c.contains.ensures ∙ c.if-contains.false) has.1) i.rows
    (all_of i.rows) (rows_show c.self.invariant.kept tile within c.in-None.ensures)))
