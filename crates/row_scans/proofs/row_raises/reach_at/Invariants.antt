use Rattle.std.proofs.Common.{◌≡◌, ◌+◌, ◌<◌, ℕ, length, get_or}
use Rattle.row_scans.proofs.row_raises.reach_at.Given as goal

abbrev pub invariant-loop-i : goal.invariant-loop-i
invariant-loop-i l = record {
  long : length l.reach.levels ≡ 16;
  wide : length l.reach.caps ≡ 16;
  levels : (k : ℕ) → k < l.i → get_or l.reach.levels k 0 ≡ get_or l.row (l.start + k) 0;
  caps : (k : ℕ) → k < l.i → get_or l.reach.caps k 0 ≡ get_or l.mask (l.start + k) 0;
}
