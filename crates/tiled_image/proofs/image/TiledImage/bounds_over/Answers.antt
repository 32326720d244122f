-- What the tactics leave open of `bounds_over`.
use Rattle.std.proofs.Common.{sym, subst, ap}
use Rattle.grid_core.specs.Tiles.{rect_of}
use Rattle.tiled_image.specs.{RaisedTiles.whole_of, Shown.value_in, Sides.HasSides, TiledImage.TiledRaster}
use Rattle.tiled_image.proofs.{KeptImages.tile_before, Sides.rim_values}
use Rattle.tiled_image.proofs.RaisedParts.{bounds_of_rim, bounds_seen, rim_seen}
use Rattle.tiled_image.proofs.image.TiledImage.bounds_over.Goals as goal

pub bounds_over-requires-clause-count : goal.bounds_over-requires-clause-count
bounds_over-requires-clause-count c = c.self.invariant.shown.rims_are.count

pub bounds_over-requires-clause-tile : goal.bounds_over-requires-clause-tile
bounds_over-requires-clause-tile c =
    let i = c.self.inside in
    tile_before i.tiling (whole_of i.tiling i.rows i.parts i.newer i.rims) c.args.self.now c.args.tile c.self.view_is
    c.requires.tile

pub bounds_over-requires-clause-rim : goal.bounds_over-requires-clause-rim
bounds_over-requires-clause-rim c =
    subst (λ (r : TiledRaster). HasSides (rect_of r.tiling c.args.tile) c.args.rim.now) (sym c.self.view_is)
    c.requires.rim

pub returns : goal.returns
returns c piece is_piece is_rim low =
    let i = c.self.inside in
    let now = c.args.self.now in
    let tile = c.args.tile in
    let rect = rect_of now.tiling tile in
    let whole = whole_of i.tiling i.rows i.parts i.newer i.rims in
    let own = rim_seen now i.tiling whole i.rims tile c.self.view_is c.self.invariant.shown.rims_are
    (tile_before i.tiling whole now tile c.self.view_is c.requires.tile) in
    bounds_of_rim rect now.image piece c.bounds_over.result
    (bounds_seen now i.tiling i.rims tile c.args.rim.now c.bounds_over.result (value_in rect piece)
    (ap (λ (r : TiledRaster). r.tiling) c.self.view_is) own c.bounds_over.ensures
    (rim_values rect piece c.args.rim.now is_rim is_piece.width is_piece.height)) low
