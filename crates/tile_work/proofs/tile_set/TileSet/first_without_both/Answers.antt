-- What the tactics leave open of `first_without_both`.
use Rattle.std.proofs.Common.{arith}
use Rattle.tile_work.proofs.tile_set.TileSet.first_without_both.Goals as goal

pub loop-tile-smaller : goal.loop-tile-smaller
loop-tile-smaller c =
    let found = c.in-Some.ensures in
    let within = found.has.0 in
    let later = found.from in
    let count = c.len.ensures in
    let next = c.saturating_add-from.ensures in
    omega (arith, within, later, count, next)
