use Rattle.raster_sweeps.proofs.OpenRows.{row_stopped, last_row_joined, row_down_stopped, row_joined}
use Rattle.raster_sweeps.proofs.open_pairs.queue_row.Goals as goal

pub returns-then-not-queue_within : goal.returns-then-not-queue_within
returns-then-not-queue_within c = row_stopped c.args.y (c.if-not-queue_within.ensures c.args.conn)

pub returns-then-y-rect : goal.returns-then-y-rect
returns-then-y-rect c = last_row_joined c.args.y c.if-y-rect.true (c.if-not-queue_within.ensures c.args.conn)

pub returns-then-queue_between : goal.returns-then-queue_between
returns-then-queue_between c =
    row_joined c.args.y (c.if-not-queue_within.ensures c.args.conn) c.if-queue_between.ensures
    c.queue_between-then-queue_between.ensures

pub returns-else-queue_between : goal.returns-else-queue_between
returns-else-queue_between c =
    rw c.if-queue_between.false (row_down_stopped c.args.y (c.if-not-queue_within.ensures c.args.conn)
    c.if-queue_between.ensures)
