use Rattle.std.proofs.Common.{◌-◌, ◌<◌, length}
use Rattle.row_scans.proofs.RowPairs.{IsClosedUpTo}
use Rattle.row_scans.proofs.rows.is_closed_along.Given as goal

abbrev pub invariant-loop-end : goal.invariant-loop-end
invariant-loop-end l = record {
  sofar : IsClosedUpTo l.row l.mask l.end;
  some : 0 < l.end;
}

abbrev pub decreases-loop-end : goal.decreases-loop-end
decreases-loop-end l = length l.row - l.end
