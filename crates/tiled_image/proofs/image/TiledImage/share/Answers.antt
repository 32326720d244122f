-- What the tactics leave open of `share`.
use Rattle.std.proofs.Common.{◌∙◌, subst}
use Rattle.std.proofs.lemmas.Result.{IfOk-weaker}
use Rattle.std.specs.Arc.{arc_value}
use Rattle.grid_core.specs.{Rects.IsPart, Tiles.rect_of}
use Rattle.tiled_image.specs.{RaisedTiles.whole_of, TiledImage.TiledRaster}
use Rattle.tiled_image.proofs.{AllKept.seen, AllKept.with_all, KeptImages.tile_before, LaidRims.settled_part}
use Rattle.tiled_image.proofs.image.TiledImage.share.Goals as goal

pub fold_one-requires-clause-tile : goal.fold_one-requires-clause-tile
fold_one-requires-clause-tile c =
    let i = c.self.inside in
    tile_before i.tiling (whole_of i.tiling i.rows i.parts i.newer i.rims) c.args.self.now c.args.tile c.self.view_is
    c.requires

pub share_part-requires-clause-tile : goal.share_part-requires-clause-tile
share_part-requires-clause-tile c =
    let i = c.self.inside in
    tile_before i.tiling (whole_of i.tiling i.rows i.parts i.newer i.rims) c.args.self.now c.args.tile c.self.view_is
    c.requires

pub invariant_of-self : goal.invariant_of-self
invariant_of-self c =
    let done = c.fold_one.ensures in
    with_all c.fold_one.new.raised c.share_part.ensures.kept done.shown (done.count ∙ c.self.invariant.count)
    c.self.invariant.copies_are

pub returns-clause-part : goal.returns-clause-part
returns-clause-part c =
    let i = c.self.inside in
    let tile = c.args.tile in
    let done = c.fold_one.ensures in
    let within = tile_before i.tiling (whole_of i.tiling i.rows i.parts i.newer i.rims) c.args.self.now tile
    c.self.view_is c.requires in
    IfOk-weaker c.share_part.result _ _ (λ part is_part.
    subst (λ (r : TiledRaster). IsPart (rect_of r.tiling tile) r.image (arc_value part)) c.self.view_is
    (settled_part done.shown tile within done.settled (arc_value part) is_part))
    c.share_part.ensures.part

pub returns-clause-same : goal.returns-clause-same
returns-clause-same c =
    seen c.fold_one.new.raised c.share_part.ensures.kept c.fold_one.ensures.shown ∙ c.self.view_is
