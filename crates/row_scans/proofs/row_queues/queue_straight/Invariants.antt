use Rattle.std.proofs.Common.{◌-◌, ◌≤◌, length}
use Rattle.row_scans.proofs.Joining.{AreChecked}
use Rattle.row_scans.proofs.row_queues.queue_straight.Given as goal

abbrev pub invariant-loop-start : goal.invariant-loop-start
invariant-loop-start l = record {
  within : l.start ≤ length l.to;
  checked : AreChecked l.first l.from l.mask l.to l.fn.waiting l.start l.waiting;
}

abbrev pub decreases-loop-start : goal.decreases-loop-start
decreases-loop-start l = length l.to - l.start
