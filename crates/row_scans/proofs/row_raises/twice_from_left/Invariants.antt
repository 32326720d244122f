use Rattle.std.proofs.Common.{◌≡◌, ◌-◌, ◌<◌, ◌≤◌, ℕ, length, min, max, get_or}
use Rattle.row_scans.proofs.row_raises.twice_from_left.Given as goal

abbrev pub invariant-loop-i : goal.invariant-loop-i
invariant-loop-i l = record {
  long : length l.next.levels ≡ 16;
  wide : length l.next.caps ≡ 16;
  kept : (k : ℕ) → k < l.by → get_or l.next.levels k 0 ≡ get_or l.reach.levels k 0;
  stays : (k : ℕ) → k < l.by → get_or l.next.caps k 0 ≡ get_or l.reach.caps k 0;
  levels :
      (k : ℕ) → l.by ≤ k → k < l.i → get_or l.next.levels k 0
      ≡ max (get_or l.reach.levels k 0) (min (get_or l.reach.levels (k - l.by) 0) (get_or l.reach.caps k 0));
  caps :
      (k : ℕ) → l.by ≤ k → k < l.i → get_or l.next.caps k 0
      ≡ min (get_or l.reach.caps k 0) (get_or l.reach.caps (k - l.by) 0);
}
