use Rattle.std.proofs.Common.{◌≡◌, ◌<◌, ◌≤◌, ◌↔◌, ℕ, false, min, get_or}
use Rattle.row_scans.proofs.rows.is_section_closed.Given as goal

abbrev pub invariant-loop-i : goal.invariant-loop-i
invariant-loop-i l =
    (l.open ≡ false)
    ↔ ((k : ℕ) → k < l.i
    → (min (get_or l.left k 0) (get_or l.right_mask k 0) ≤ get_or l.right k 0)
    × (min (get_or l.right k 0) (get_or l.left_mask k 0) ≤ get_or l.left k 0))
