-- What the tactics leave open of `get_in`.
use Rattle.tiled_image.specs.RaisedTiles.{whole_of}
use Rattle.tiled_image.proofs.KeptImages.{rect_before, tile_before}
use Rattle.tiled_image.proofs.image.TiledImage.get_in.Goals as goal

pub get-requires-clause-count : goal.get-requires-clause-count
get-requires-clause-count c = c.self.invariant.shown.rims_are.count

pub get-requires-clause-tile : goal.get-requires-clause-tile
get-requires-clause-tile c =
    let i = c.self.inside in
    tile_before i.tiling (whole_of i.tiling i.rows i.parts i.newer i.rims) c.args.self.now c.args.tile c.self.view_is
    c.requires.tile

pub get-requires-clause-rect : goal.get-requires-clause-rect
get-requires-clause-rect c =
    let i = c.self.inside in
    rect_before i.tiling (whole_of i.tiling i.rows i.parts i.newer i.rims) c.args.self.now c.args.tile c.args.rect
    c.self.view_is c.requires.rect
