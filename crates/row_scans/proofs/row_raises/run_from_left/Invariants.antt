use Rattle.std.proofs.Common.{◌≡◌, ◌+◌, ◌<◌, ◌≤◌, ℕ, min, max, get_or}
use Rattle.row_scans.proofs.row_raises.run_from_left.Given as goal

abbrev pub invariant-loop-i : goal.invariant-loop-i
invariant-loop-i l = record {
  first : get_or l.row 0 0 ≡ get_or l.fn.row 0 0;
  done :
      (k : ℕ) → k + 1 < l.i
      → get_or l.row (k + 1) 0 ≡ max (get_or l.fn.row (k + 1) 0) (min (get_or l.row k 0) (get_or l.mask (k + 1) 0));
  rest : (k : ℕ) → l.i ≤ k → get_or l.row k 0 ≡ get_or l.fn.row k 0;
  start : l.i ≡ 0 → l.level ≡ 0;
  level : (k : ℕ) → k + 1 ≡ l.i → l.level ≡ get_or l.row k 0;
}
