-- What the tactics leave open of `fold`.
use Rattle.std.proofs.Common.{◌∙◌}
use Rattle.tiled_image.specs.RaisedTiles.{whole_of}
use Rattle.tiled_image.proofs.{AllKept.seen, AllKept.with_all, KeptImages.tile_before}
use Rattle.tiled_image.proofs.image.TiledImage.fold.Goals as goal

pub fold_one-requires-clause-tile : goal.fold_one-requires-clause-tile
fold_one-requires-clause-tile c =
    let i = c.self.inside in
    tile_before i.tiling (whole_of i.tiling i.rows i.parts i.newer i.rims) c.args.self.now c.args.tile c.self.view_is
    c.requires

pub invariant_of-self : goal.invariant_of-self
invariant_of-self c =
    let done = c.fold_one.ensures in
    with_all c.fold_one.new.raised done.kept done.shown (done.count ∙ c.self.invariant.count)
    c.self.invariant.copies_are

pub returns : goal.returns
returns c = seen c.fold_one.new.raised c.fold_one.ensures.kept c.fold_one.ensures.shown ∙ c.self.view_is
