-- What the tactics leave open of `widened_by_line`.
use Rattle.std.proofs.Common.{arith}
use Rattle.tiled_image.proofs.RimsAbove.{line_more}
use Rattle.tiled_image.proofs.rims.raising.widened_by_line.Goals as goal

pub pixel_at-p-requires-clause-line : goal.pixel_at-p-requires-clause-line
pixel_at-p-requires-clause-line c = c.requires.line

pub pixel_at-p-requires-clause-columns : goal.pixel_at-p-requires-clause-columns
pixel_at-p-requires-clause-columns c = c.requires.columns

pub pixel_at-p-requires-clause-rows : goal.pixel_at-p-requires-clause-rows
pixel_at-p-requires-clause-rows c = c.requires.rows

pub pixel_at-p-requires-clause-place : goal.pixel_at-p-requires-clause-place
pixel_at-p-requires-clause-place c = omega (arith, c.requires.values, c.loop-k-test.true)

pub bounds-limits-k : goal.bounds-limits-k
bounds-limits-k c = omega (arith, c.requires.values, c.requires.limits, c.loop-k-test.true)

pub loop-k-preserved : goal.loop-k-preserved
loop-k-preserved c =
    line_more c.args.strip c.args.values.now c.args.limits.now c.loop-k.k c.args.before c.loop-k.bounds
    c.widened_by_pixel-bounds.result c.pixel_at-p.result c.pixel_at-p.ensures c.loop-k.invariant
    c.widened_by_pixel-bounds.ensures
