-- What the tactics leave open of `mark_linked`.
use Rattle.std.proofs.Common.{refl, arith, ◌<◌, ◌≤◌, length}
use Rattle.core_rules.specs.Hits.{AreLinked}
use Rattle.tile_work.proofs.HittingTouching.{listed_is_tile, linked_is_listed, one_more_among, all_among}
use Rattle.tile_work.proofs.hits.links.Links.mark_linked.Goals as goal

pub mark_if_linked-requires-clause-other : goal.mark_if_linked-requires-clause-other
mark_if_linked-requires-clause-other c =
    let items = c.as_slice-other-items.result.now in
    let within : c.loop-other.other-index < length items = omega (arith, c.loop-other-test.true) in
    listed_is_tile c.args.self.now.tiling c.args.self.now.image.now c.args.self.now.conn c.args.tile items
    c.touching-touching.result c.as_slice-other-items.ensures.tiles c.touching-touching.ensures.members
    c.loop-other.other-index within

pub loop-other-preserved : goal.loop-other-preserved
loop-other-preserved c =
    one_more_among c.as_slice-other-items.result.now
    (AreLinked c.args.self.now.tiling c.args.self.now.image.now c.args.self.now.conn c.args.tile)
    c.loop-other.other-index refl c.loop-other.invariant c.mark_if_linked.ensures

pub returns : goal.returns
returns c =
    let tiles = c.args.self.now.tiling in
    let image = c.args.self.now.image.now in
    let conn = c.args.self.now.conn in
    let items = c.as_slice-other-items.result.now in
    let past : length items ≤ c.loop-other.other-index = omega (arith, c.loop-other-test.false) in
    all_among items (AreLinked tiles image conn c.args.tile) c.loop-other.other-index c.args.tile c.requires.tile
    (linked_is_listed tiles image conn c.args.tile items c.touching-touching.result c.as_slice-other-items.ensures.tiles
    c.touching-touching.ensures.members c.side.ensures.tiled c.neighbours_lie_in_touching_tiles.ensures
    c.each_pixel_in_one_tile.ensures)
    past c.loop-other.invariant
