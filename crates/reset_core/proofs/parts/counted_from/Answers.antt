-- What the tactics leave open of `counted_from`.
use Rattle.std.proofs.Common.{arith}
use Rattle.raster_sweeps.proofs.OpenCells.{some_within}
use Rattle.reset_core.proofs.BoundedOrTold.{moved_counted, none_counted}
use Rattle.reset_core.proofs.parts.counted_from.Goals as goal

pub returns-then-is_empty : goal.returns-then-is_empty
returns-then-is_empty c =
    rw c.none.ensures (none_counted c.args.rect c.args.bounds (c.is_empty.ensures.0 c.if-is_empty.true))

pub overflow_sub-right : goal.overflow_sub-right
overflow_sub-right c =
    let some = some_within c.args.bounds c.is_empty.result c.is_empty.ensures c.if-is_empty.false in
    omega (arith, some.0, c.requires.0)

pub overflow_sub-bottom : goal.overflow_sub-bottom
overflow_sub-bottom c =
    let some = some_within c.args.bounds c.is_empty.result c.is_empty.ensures c.if-is_empty.false in
    omega (arith, some.1, c.requires.2)

pub returns : goal.returns
returns c = moved_counted c.args.rect c.args.bounds c.requires
