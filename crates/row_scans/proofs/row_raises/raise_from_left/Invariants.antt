use Rattle.std.proofs.Common.{◌-◌, ◌<◌, length}
use Rattle.row_scans.proofs.Strips.{IsDoneFromLeft}
use Rattle.row_scans.proofs.row_raises.raise_from_left.Given as goal

abbrev pub invariant-loop-end : goal.invariant-loop-end
invariant-loop-end l = record {
  sofar : IsDoneFromLeft l.mask l.fn.row l.end l.row;
  some : 0 < l.end;
}

abbrev pub decreases-loop-end : goal.decreases-loop-end
decreases-loop-end l = length l.initial.row - l.end
