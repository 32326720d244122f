use Rattle.std.proofs.Common.{◌≡◌, ◌+◌, ◌<◌, ◌≤◌, ℕ, min, max, get_or}
use Rattle.row_scans.proofs.row_raises.let_in.Given as goal

abbrev pub invariant-loop-i : goal.invariant-loop-i
invariant-loop-i l = record {
  inside :
      (k : ℕ) → k < l.i → get_or l.row (l.start + k) 0
      ≡ max (get_or l.reach.levels k 0) (min l.level (get_or l.reach.caps k 0));
  ahead : (k : ℕ) → k < l.start → get_or l.row k 0 ≡ get_or l.fn.row k 0;
  behind : (k : ℕ) → l.start + l.i ≤ k → get_or l.row k 0 ≡ get_or l.fn.row k 0;
}
