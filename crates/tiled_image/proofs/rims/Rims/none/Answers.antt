-- What the tactics leave open of `none`.
use Rattle.std.proofs.Common.{◌≤◌, sym, subst, arith}
use Rattle.tiled_image.proofs.Strips.{count_within, room_within}
use Rattle.tiled_image.proofs.rims.Rims.none.Goals as goal

pub overflow_mul-count-2 : goal.overflow_mul-count-2
overflow_mul-count-2 c =
    let tiled = c.count-count.ensures.tiled in
    let few : c.count-count.result ≤ 67108864 =
    subst (λ n. n ≤ 67108864) (sym c.count-count.ensures.value) (count_within c.args.tiling.now tiled) in
    let small : c.side-side.result ≤ 256 =
    subst (λ n. n ≤ 256) (sym c.side-side.ensures.value) tiled.tile_side.at_most in
    omega (arith, room_within c.count-count.result c.side-side.result few small)
