use Rattle.std.proofs.Common.{◌≡◌, ◌+◌, ◌<◌, ◌⊎◌}
use Rattle.derived_views.proofs.holes.copy_rows.Given as goal
use Rattle.derived_views.specs.Rasters.{Copies}

-- the columns so far
abbrev pub invariant-loop-x : goal.invariant-loop-x
invariant-loop-x l =
    Copies (λ p. (p.x < l.x) × ((p.y ≡ 0) ⊎ (p.y + 1 ≡ l.grid.height))) l.grid l.fn.border l.border
