-- What the tactics leave open of `count_without`.
use Rattle.std.proofs.Common.{◌≡◌, ◌+◌, ◌-◌, ◌∙◌, ap, arith}
use Rattle.tile_work.specs.{Counts.count_from, TileSet.is_without}
use Rattle.tile_work.proofs.Counts.{count_add, count_at_most_all}
use Rattle.tile_work.proofs.tile_set.TileSet.count_without.Goals as goal

pub overflow_add-total : goal.overflow_add-total
overflow_add-total c =
    let test = is_without c.args.self.now c.args.other.now in
    let before = count_at_most_all test c.args.start (c.loop-from.from - c.args.start) in
    let here = count_at_most_all test c.loop-from.from c.min-tiles.result in
    omega (arith, before, here)

pub loop-from-preserved : goal.loop-from-preserved
loop-from-preserved c =
    let test = is_without c.args.self.now c.args.other.now in
    let start = c.args.start in
    let from = c.loop-from.from in
    let tiles = c.min-tiles.result in
    let place : start + (from - start) ≡ from = omega arith in
    let all : from - start + tiles ≡ from + tiles - start = omega arith in
    let both = count_add test start (from - start) tiles in
    record {
      later = omega arith;
      within = omega arith;
      counted = omega (arith, both, ap (λ p. count_from test p tiles) place, ap (count_from test start) all);
    }

pub returns : goal.returns
returns c =
    let test = is_without c.args.self.now c.args.other.now in
    let all : c.loop-from.from - c.args.start ≡ c.args.end - c.args.start = omega arith in
    c.loop-from.invariant.counted ∙ ap (count_from test c.args.start) all
