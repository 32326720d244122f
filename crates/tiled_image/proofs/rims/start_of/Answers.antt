-- What the tactics leave open of `start_of`.
use Rattle.std.proofs.Common.{◌≡◌, ◌+◌, ◌*◌, ◌<◌, sym, subst, arith}
use Rattle.tiled_image.specs.Rims.{start_of}
use Rattle.tiled_image.proofs.Strips.{count_within, rank_below, start_small}
use Rattle.tiled_image.proofs.rims.start_of.Goals as goal

pub overflow_add-result : goal.overflow_add-result
overflow_add-result c =
    let few = count_within c.args.tiling.now c.side-side.ensures.tiled in
    let low : c.rank_of.result < 4 = subst (λ n. n < 4) (sym c.rank_of.ensures) (rank_below c.args.edge) in
    omega (arith, c.requires, few, low)

pub overflow_mul-result-2 : goal.overflow_mul-result-2
overflow_mul-result-2 c =
    let tiling = c.args.tiling.now in
    let same : (c.args.tile * 4 + c.rank_of.result) * c.side-side.result ≡ start_of tiling c.args.tile c.args.edge =
    λ i. (c.args.tile * 4 + c.rank_of.ensures i) * c.side-side.ensures.value i in
    omega (arith, same, start_small tiling c.args.tile c.side-side.ensures.tiled c.requires c.args.edge)
