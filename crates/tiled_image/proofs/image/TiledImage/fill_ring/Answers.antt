-- What the tactics leave open of `fill_ring`.
use Rattle.std.proofs.Common.{◌*◌, ◌≤◌, length, sym, subst}
use Rattle.border_queues.specs.Around.{around_of}
use Rattle.tiled_image.specs.{RaisedTiles.whole_of, Ring.HasRing, TiledImage.TiledRaster}
use Rattle.tiled_image.proofs.KeptImages.{tile_before}
use Rattle.tiled_image.proofs.image.TiledImage.fill_ring.Goals as goal

pub fill_ring-requires-clause-count : goal.fill_ring-requires-clause-count
fill_ring-requires-clause-count c = c.self.invariant.shown.rims_are.count

pub fill_ring-requires-clause-tile : goal.fill_ring-requires-clause-tile
fill_ring-requires-clause-tile c =
    let i = c.self.inside in
    tile_before i.tiling (whole_of i.tiling i.rows i.parts i.newer i.rims) c.args.self.now c.args.tile c.self.view_is
    c.requires.tile

pub fill_ring-requires-clause-room : goal.fill_ring-requires-clause-room
fill_ring-requires-clause-room c =
    subst (λ (r : TiledRaster). (around_of r.tiling c.args.tile).w * (around_of r.tiling c.args.tile).h
    ≤ length c.args.cells.now) (sym c.self.view_is) c.requires.room

pub returns : goal.returns
returns c =
    let i = c.self.inside in
    subst (λ (r : TiledRaster). HasRing r.tiling c.args.tile r.image c.fill_ring.new.cells) c.self.view_is
    (c.fill_ring.ensures (whole_of i.tiling i.rows i.parts i.newer i.rims) c.self.invariant.shown.rims_are)
