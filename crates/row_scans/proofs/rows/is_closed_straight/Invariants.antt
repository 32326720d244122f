use Rattle.std.proofs.Common.{◌≡◌, ◌<◌, ◌≤◌, ◌↔◌, ℕ, false, min, get_or}
use Rattle.row_scans.proofs.rows.is_closed_straight.Given as goal

abbrev pub invariant-loop-i : goal.invariant-loop-i
invariant-loop-i l =
    (l.open ≡ false) ↔ ((k : ℕ) → k < l.i → min (get_or l.from k 0) (get_or l.mask k 0) ≤ get_or l.to k 0)
