-- What the tactics leave open of `let_go`.
use Rattle.std.proofs.Common.{◌<◌, length, arith}
use Rattle.tile_work.specs.TileSet.{Has}
use Rattle.tiled_image.proofs.RenewedTiles.{all_gone, least_of_set, none_gone, one_more_gone}
use Rattle.tiled_image.proofs.image.renewing.let_go.Goals as goal

pub loop-tile-init : goal.loop-tile-init
loop-tile-init c = none_gone (Has c.args.tiles.now) c.args.parts.now

pub remove-requires : goal.remove-requires
remove-requires c = omega (arith, c.in-Some.ensures.has.0, c.requires, c.loop-tile.invariant.count)

pub loop-tile-smaller : goal.loop-tile-smaller
loop-tile-smaller c = omega (arith, c.in-Some.ensures.from, c.in-Some.ensures.has.0)

pub loop-tile-preserved : goal.loop-tile-preserved
loop-tile-preserved c =
    let within : c.in-Some.tile < length c.loop-tile.parts =
    omega (arith, c.in-Some.ensures.has.0, c.requires, c.loop-tile.invariant.count) in
    one_more_gone (Has c.args.tiles.now) c.args.parts.now c.loop-tile.next c.loop-tile.parts
    c.loop-tile.invariant c.in-Some.tile (least_of_set c.args.tiles.now c.loop-tile.next c.in-Some.tile
    c.in-Some.ensures) within c.remove.new.self c.remove.ensures

pub returns : goal.returns
returns c =
    all_gone (Has c.args.tiles.now) c.args.parts.now c.loop-tile.next c.loop-tile.parts c.loop-tile.invariant
    c.in_default.ensures
