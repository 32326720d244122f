-- What the tactics leave open of `of`.
use Rattle.std.proofs.Common.{◌<◌, ◌+◌, refl, subst, arith}
use Rattle.grid_core.specs.Raster.{value_at}
use Rattle.tiled_image.proofs.TileRims.{one_more_taken}
use Rattle.tiled_image.proofs.rims.Rims.of.Goals as goal

pub loop-tile-preserved : goal.loop-tile-preserved
loop-tile-preserved c =
    let tile = c.loop-tile.tile in
    let within = subst (λ n. tile < n) c.count-tile-end.ensures.value c.loop-tile-test.true in
    one_more_taken c.args.tiling.now c.count-tile-end.ensures.tiled (λ t. t < tile) (λ t. t < tile + 1)
    c.args.image.now (value_at c.args.image.now) tile c.in_ok-rims.rims c.loop-tile.rims c.take_whole.new.self within
    c.loop-tile.invariant c.take_whole.ensures (λ p inside. refl) (omega arith) (λ t before. omega (arith, before))
    (λ t before other. omega (arith, before, other))
