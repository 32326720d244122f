use Rattle.std.proofs.Common.{◌≤◌}
use Rattle.band_growth.proofs.seam.count_straight.Given as goal

abbrev pub invariant-loop-i : goal.invariant-loop-i
invariant-loop-i l = l.count ≤ l.i
