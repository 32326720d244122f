use Rattle.std.proofs.Common.{◌-◌, ◌≤◌, length}
use Rattle.row_scans.proofs.Strips.{IsDoneFromRight}
use Rattle.row_scans.proofs.row_raises.raise_block_from_right.Given as goal

abbrev pub invariant-loop-end : goal.invariant-loop-end
invariant-loop-end l = record {
  sofar : IsDoneFromRight l.mask l.fn.block l.end l.block;
  within : l.end ≤ length l.block;
}

abbrev pub decreases-loop-end : goal.decreases-loop-end
decreases-loop-end l = l.end - 1
