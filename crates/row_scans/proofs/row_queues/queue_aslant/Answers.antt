use Rattle.row_scans.proofs.RowQueues.{aslant_joined, aslant_stopped}
use Rattle.row_scans.proofs.row_queues.queue_aslant.Goals as goal

pub returns-then-queue_straight : goal.returns-then-queue_straight
returns-then-queue_straight c =
    aslant_joined c.requires.some c.requires.rows c.if-queue_straight.ensures
    c.queue_straight-then-queue_straight.ensures

pub returns-else-queue_straight : goal.returns-else-queue_straight
returns-else-queue_straight c =
    rw c.if-queue_straight.false (aslant_stopped c.requires.some c.requires.rows c.if-queue_straight.ensures)
