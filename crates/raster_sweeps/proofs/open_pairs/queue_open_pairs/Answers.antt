use Rattle.std.proofs.Common.{◌+◌}
use Rattle.raster_sweeps.proofs.OpenRows.{rows_joined, rows_stopped, all_rows_joined}
use Rattle.raster_sweeps.proofs.open_pairs.queue_open_pairs.Goals as goal

pub returns-then-not-queue_row : goal.returns-then-not-queue_row
returns-then-not-queue_row c =
    rows_stopped (c.loop-y.y + 1) (rows_joined c.loop-y.y c.loop-y.invariant c.if-not-queue_row.ensures)

pub loop-y-preserved : goal.loop-y-preserved
loop-y-preserved c = rows_joined c.loop-y.y c.loop-y.invariant c.if-not-queue_row.ensures

pub returns : goal.returns
returns c = all_rows_joined c.loop-y.y c.loop-y-test.false c.loop-y.invariant
