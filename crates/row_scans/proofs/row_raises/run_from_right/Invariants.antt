use Rattle.std.proofs.Common.{◌≡◌, ◌+◌, ◌<◌, ◌≤◌, ℕ, length, min, max, get_or}
use Rattle.row_scans.proofs.row_raises.run_from_right.Given as goal

abbrev pub invariant-loop-i : goal.invariant-loop-i
invariant-loop-i l = record {
  last : (k : ℕ) → k + 1 ≡ length l.row → get_or l.row k 0 ≡ get_or l.fn.row k 0;
  done :
      (k : ℕ) → l.i ≤ k → k + 1 < length l.row
      → get_or l.row k 0 ≡ max (get_or l.fn.row k 0) (min (get_or l.row (k + 1) 0) (get_or l.mask k 0));
  rest : (k : ℕ) → k < l.i → get_or l.row k 0 ≡ get_or l.fn.row k 0;
  start : l.i ≡ length l.row → l.level ≡ 0;
  level : l.i < length l.row → l.level ≡ get_or l.row l.i 0;
}
