-- What the tactics leave open of `count_low`.
use Rattle.std.proofs.Common.{◌≡◌, ◌+◌, ◌-◌, ◌*◌, ◌%◌, ◌^◌, count_ones, ap, ◌∙◌, arith}
use Rattle.tile_work.proofs.TileSetCounts.{ones_low}
use Rattle.tile_work.proofs.tile_set.count_low.Goals as goal

pub returns : goal.returns
returns c =
    let word = c.args.word in
    let bits = c.args.bits in
    let all : 64 ≡ bits + (64 - bits) = omega arith in
    ap (λ n. count_ones (word * 2 ^ (64 - bits) % 2 ^ n)) all ∙ ones_low word bits (64 - bits)
