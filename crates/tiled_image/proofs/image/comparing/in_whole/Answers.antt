-- What the tactics leave open of `in_whole`.
use Rattle.std.proofs.Common.{arith}
use Rattle.raster_sweeps.proofs.OpenCells.{some_within}
use Rattle.tiled_image.proofs.ShownParts.{moved_in_whole, none_in_whole}
use Rattle.tiled_image.proofs.image.comparing.in_whole.Goals as goal

pub returns-then-is_empty : goal.returns-then-is_empty
returns-then-is_empty c =
    rw c.none.ensures (none_in_whole c.args.rect c.args.bounds (c.is_empty.ensures.0 c.if-is_empty.true)
    c.requires.columns c.requires.rows)

pub overflow_add-left : goal.overflow_add-left
overflow_add-left c =
    let some = some_within c.args.bounds c.is_empty.result c.is_empty.ensures c.if-is_empty.false in
    omega (arith, some.0, c.requires.lie.1, c.requires.columns)

pub overflow_add-right : goal.overflow_add-right
overflow_add-right c = omega (arith, c.requires.lie.1, c.requires.columns)

pub overflow_add-top : goal.overflow_add-top
overflow_add-top c =
    let some = some_within c.args.bounds c.is_empty.result c.is_empty.ensures c.if-is_empty.false in
    omega (arith, some.1, c.requires.lie.3, c.requires.rows)

pub overflow_add-bottom : goal.overflow_add-bottom
overflow_add-bottom c = omega (arith, c.requires.lie.3, c.requires.rows)

pub returns : goal.returns
returns c = moved_in_whole c.args.rect c.args.bounds c.requires.lie
