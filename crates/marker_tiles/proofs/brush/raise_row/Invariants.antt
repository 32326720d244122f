use Rattle.std.proofs.Common.{◌≡◌, ℕ, ◌<◌, ◌≤◌, get_or, min, max}
use Rattle.marker_tiles.proofs.brush.raise_row.Given as goal

-- the values so far are raised, and the others are as they were
abbrev pub invariant-loop-i : goal.invariant-loop-i
invariant-loop-i l =
    ((k : ℕ) → k < l.i → get_or l.row k 0 ≡ max (get_or l.fn.row k 0) (min (get_or l.limits k 0) l.level))
    × ((k : ℕ) → l.i ≤ k → get_or l.row k 0 ≡ get_or l.fn.row k 0)
