-- What the tactics leave open of `take_rims`.
use Rattle.std.proofs.Common.{◌<◌, subst, ◌∙◌, arith}
use Rattle.tile_work.specs.TileSet.{Has}
use Rattle.tiled_image.proofs.RenewedTiles.{HoldsBelow, least_of_set}
use Rattle.tiled_image.proofs.TileRims.{all_taken, least_taken, none_taken}
use Rattle.tiled_image.proofs.image.renewing.take_rims.Goals as goal

pub loop-tile-init : goal.loop-tile-init
loop-tile-init c =
    none_taken c.args.tiling.now c.side.ensures.tiled (HoldsBelow (Has c.args.tiles.now) 0) c.args.image.now
    c.args.rims.now (λ t below. omega (arith, below.1))

pub take_whole-requires-clause-count : goal.take_whole-requires-clause-count
take_whole-requires-clause-count c = c.loop-tile.invariant.count ∙ c.requires.count

pub take_whole-requires-clause-tile : goal.take_whole-requires-clause-tile
take_whole-requires-clause-tile c = subst (λ n. c.in-Some.tile < n) c.requires.tiles c.in-Some.ensures.has.0

pub loop-tile-smaller : goal.loop-tile-smaller
loop-tile-smaller c = omega (arith, c.in-Some.ensures.from, c.in-Some.ensures.has.0)

pub loop-tile-preserved : goal.loop-tile-preserved
loop-tile-preserved c =
    least_taken c.args.tiling.now c.side.ensures.tiled (Has c.args.tiles.now) c.args.image.now c.loop-tile.next
    c.in-Some.tile c.args.rims.now c.loop-tile.rims c.take_whole.new.self
    (least_of_set c.args.tiles.now c.loop-tile.next c.in-Some.tile c.in-Some.ensures)
    (subst (λ n. c.in-Some.tile < n) c.requires.tiles c.in-Some.ensures.has.0) c.loop-tile.invariant
    c.take_whole.ensures

pub returns : goal.returns
returns c =
    all_taken c.args.tiling.now c.side.ensures.tiled (Has c.args.tiles.now) c.args.image.now c.loop-tile.next
    c.args.rims.now c.loop-tile.rims c.loop-tile.invariant c.in_default.ensures
