use Rattle.row_scans.proofs.Joining.{AreChecked}
use Rattle.row_scans.proofs.row_queues.queue_strip.Given as goal

abbrev pub invariant-loop-i : goal.invariant-loop-i
invariant-loop-i l = AreChecked l.first l.from l.mask l.to l.fn.waiting l.i l.waiting
