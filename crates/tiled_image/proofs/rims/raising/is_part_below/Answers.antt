-- What the tactics leave open of `is_part_below`.
use Rattle.tiled_image.proofs.RimsAbove.{row_below}
use Rattle.tiled_image.proofs.rims.raising.is_part_below.Goals as goal

pub loop-y-preserved : goal.loop-y-preserved
loop-y-preserved c =
    row_below c.args.rect c.args.image.now c.args.values.now c.row_in.result.now c.requires.room c.loop-y.y
    c.loop-y-test.true c.row_in.ensures (c.is_at_most.ensures.0 c.if-not-is_at_most.false) c.loop-y.invariant
