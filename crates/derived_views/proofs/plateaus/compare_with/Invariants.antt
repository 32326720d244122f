use Rattle.std.proofs.Common.{◌≡◌, ℕ, ◌<◌, ◌≤◌, get_or}
use Rattle.derived_views.specs.Rasters.{MarksLower}
use Rattle.derived_views.proofs.plateaus.compare_with.Given as goal

-- the values so far are marks, and the others are as they were
abbrev pub invariant-loop-i : goal.invariant-loop-i
invariant-loop-i l =
    ((k : ℕ) → k < l.i → MarksLower l.all (get_or l.others k 0) (get_or l.fn.values k 0) (get_or l.values k 0))
    × ((k : ℕ) → l.i ≤ k → get_or l.values k 0 ≡ get_or l.fn.values k 0)
