use Rattle.row_scans.proofs.RowQueues.{straight_stopped, four_joined, eight_joined}
use Rattle.row_scans.proofs.row_queues.queue_to.Goals as goal

pub returns-then-not-queue_straight : goal.returns-then-not-queue_straight
returns-then-not-queue_straight c = straight_stopped c.args.conn c.if-not-queue_straight.ensures

pub returns-in-Four : goal.returns-in-Four
returns-in-Four c = rw c.in-Four.is (four_joined c.if-not-queue_straight.ensures)

pub returns-in-Eight : goal.returns-in-Eight
returns-in-Eight c = rw c.in-Eight.is (eight_joined c.if-not-queue_straight.ensures c.queue_aslant.ensures)
